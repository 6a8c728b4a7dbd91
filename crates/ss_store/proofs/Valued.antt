-- A stream that takes a value, or whose landmarks take an event: the state with it.
use Rattle.ss_store.proofs.Common.{◌≡◌, ℕ, zero, suc, ◌+◌, ◌<◌, ℤ, true, false, List, [], ◌∷◌, ◌++◌, drop, get_or, slice_set, refl, ap, sym, ◌∙◌, arith, None}
use Rattle.ss_store.proofs.Common.{Some, inl, inr, AllByRecursion, IsDistinct, cases_Bool, length-set, length_push, map-set, All-set, get_or_from_slice_get}
use Rattle.ss_store.proofs.Common.{none-some, same_Some, slice_get_within, same_name, Event, Value, MOST_VALUES, New, closed, closed_state, closed_stream}
use Rattle.ss_store.proofs.Common.{CanBeSaid, is_past, refuses, rule_of, IsState, IsStream, Stream, last_time, records_of, values_in, has_open, with_closed}
use Rattle.ss_store.proofs.Common.{with_opened, single_window, stepped, with_plain_value, same_name-Decides, CanAppend-refuses, IsStream-single, taken-append}
use Rattle.ss_store.proofs.Common.{with_single, with_windows, IsInOpen, event_of, with_mark, Mark}
use Rattle.std.proofs.Common.{slice_get}
use Rattle.std.proofs.lemmas.List.Sums.{sum_by-set}
use Rattle.std.proofs.lemmas.Map.Keys.{IsDistinct-head, IsDistinct-tail}
use Rattle.ss_catalog.specs.declared.event.Event.TheVariants.{Open, Close}
use Rattle.ss_model.specs.State.{names_of}
use Rattle.ss_model.specs.Steps.{change_named, with_taken, stepped_from}
use Rattle.ss_store.proofs.Common.{live}
use Rattle.ss_model.proofs.StandLemmas.{IsPossible-single, below-has_all_records}
use Rattle.ss_model.proofs.Stretches.{count-summary_of, taken-cons}
use Rattle.ss_stream.specs.declared.marking.Mark.TheVariants as mark
use Rattle.ss_store.proofs.OneOfMany.{map-set_same}
use Rattle.ss_store.proofs.ShorterStates.{closed_stream-again}
use Rattle.ss_store.proofs.Among.{IsStream-at}

-- a name that is apart from all is apart from each
apart-at : (n : List ℕ) (streams : List Stream) (k : ℕ) (s : Stream) → AllByRecursion (λ y. same_name n y ≡ false) (names_of streams) →
    slice_get streams k ≡ Some s → same_name n s.name ≡ false
apart-at n [] k s apart at = absurd (none-some s at)
apart-at n (u ∷ us) zero s apart at = rw (same_Some u s at) at apart.0
apart-at n (u ∷ us) (suc k) s apart at = apart-at n us k s apart.1 at

map-changed_apart : (name : List ℕ) (change : Stream → Stream) (streams : List Stream) → AllByRecursion (λ y. same_name name y ≡ false) (names_of streams) →
    change_named name change streams ≡ streams
map-changed_apart name change [] apart = refl
map-changed_apart name change (s ∷ ss) apart = rw (apart.0, map-changed_apart name change ss apart.1) refl

-- an event of a name changes the stream of the name alone
map-changed : (name : List ℕ) (change : Stream → Stream) (streams : List Stream) (place : ℕ) (s : Stream) → IsDistinct same_name (names_of streams) →
    slice_get streams place ≡ Some s → same_name name s.name ≡ true → change_named name change streams ≡ slice_set streams place (change s)
map-changed name change [] place s distinct at same = absurd (none-some s at)
map-changed name change (u ∷ us) zero s distinct at same =
    let is : u ≡ s = same_Some u s at in
    let named : same_name name u.name ≡ true = rw is same in
    let name_is : u.name ≡ name = sym ((same_name-Decides name u.name).0 named) in
    let others = rw name_is at (IsDistinct-head same_name u.name (names_of us) distinct) in
    rw (named, map-changed_apart name change us others) (ap (λ (x : Stream). change x ∷ us) is)
map-changed name change (u ∷ us) (suc k) s distinct at same =
    let later = map-changed name change us k s (IsDistinct-tail same_name u.name (names_of us) distinct) at same in
    let apart = apart-at u.name us k s (IsDistinct-head same_name u.name (names_of us) distinct) at in
    elim (cases_Bool (same_name name u.name)) [
      | inl named ↦
          (let name_is : name ≡ u.name = (same_name-Decides name u.name).0 named in
          let both : same_name name s.name ≡ false = rw name_is apart in
          let wrong : true ≡ false = sym same ∙ both in
          cc)
      | inr other ↦ rw (other, later) refl
    ]

-- the step of an event that creates no stream
stepped-value : (streams : List Stream) (name : List ℕ) (t : ℕ) (v : ℤ) →
    stepped streams (Value name t v) ≡ change_named name (λ s. with_taken s (t, v, New)) streams
unfolding stepped_from
stepped-value streams name t v = refl

stepped-open : (streams : List Stream) (name : List ℕ) (t : ℕ) →
    stepped streams (Open name t) ≡ change_named name (λ s. record s { landmarks = with_opened s.landmarks t }) streams
unfolding stepped_from
stepped-open streams name t = refl

stepped-close : (streams : List Stream) (name : List ℕ) (t : ℕ) →
    stepped streams (Close name t) ≡ change_named name (λ s. record s { landmarks = with_closed s.landmarks t }) streams
unfolding stepped_from
stepped-close streams name t = refl

-- a value is the open landmark's, where one is open
taken-plain : (s : Stream) (t : ℕ) (v : ℤ) → has_open s.landmarks ≡ false → with_taken s (t, v, New) ≡ with_plain_value s (t, v, New)
taken-plain s t v plain = rw plain refl

taken-marked : (s : Stream) (t : ℕ) (v : ℤ) → has_open s.landmarks ≡ true → with_taken s (t, v, New) ≡ with_mark s t (mark.Value v)
taken-marked s t v begun = rw begun refl

-- an event of landmarks makes this of the stream of its name
pub stepped-mark : (streams : List Stream) (name : List ℕ) (t : ℕ) (what : Mark) (place : ℕ) (s : Stream) → IsDistinct same_name (names_of streams) →
    slice_get streams place ≡ Some s → same_name name s.name ≡ true → (IsInOpen what → has_open s.landmarks ≡ true) →
    slice_set streams place (with_mark s t what) ≡ stepped streams (event_of name t what)
stepped-mark streams name t mark.Open place s distinct at same begun =
    sym (stepped-open streams name t ∙ map-changed name (λ u. record u { landmarks = with_opened u.landmarks t }) streams place s distinct at same)
stepped-mark streams name t (mark.Value v) place s distinct at same begun =
    sym (stepped-value streams name t v ∙ map-changed name (λ u. with_taken u (t, v, New)) streams place s distinct at same
    ∙ ap (slice_set streams place) (taken-marked s t v (begun tt)))
stepped-mark streams name t mark.Close place s distinct at same begun =
    sym (stepped-close streams name t ∙ map-changed name (λ u. record u { landmarks = with_closed u.landmarks t }) streams place s distinct at same)

-- a stream of a state that is closed is closed
pub closed-at : (streams : List Stream) (place : ℕ) (s : Stream) → closed_state streams ≡ streams → slice_get streams place ≡ Some s → closed_stream s ≡ s
closed-at [] place s closed_before at = absurd (none-some s at)
closed-at (u ∷ us) zero s closed_before at =
    let here : closed_stream u ≡ u = ap (λ (l : List Stream). get_or l 0 u) closed_before in
    rw (same_Some u s at) at here
closed-at (u ∷ us) (suc k) s closed_before at = closed-at us k s (ap (drop 1) closed_before) at

-- and an event of landmarks touches no window
closed-mark : (s : Stream) (t : ℕ) (what : Mark) → closed_stream s ≡ s → closed_stream (with_mark s t what) ≡ with_mark s t what
closed-mark s t what is = ap (λ x. with_mark x t what) is

-- a step of a state that leaves closed what was closed
pub record MayStep (streams : List Stream) (event : Event) (place : ℕ) (next : Stream) : Type 0 where
  pub state : IsState streams
  pub none : refuses streams event ≡ None
  pub said : CanBeSaid event
  pub is : slice_set streams place next ≡ stepped streams event
  pub closed : closed_state (stepped streams event) ≡ stepped streams event

-- the state stays closed where the stream after the step is
closed-set : (streams : List Stream) (event : Event) (place : ℕ) (next : Stream) → slice_set streams place next ≡ stepped streams event →
    closed_state streams ≡ streams → closed_stream next ≡ next → closed_state (stepped streams event) ≡ stepped streams event
closed-set streams event place next is closed_before again =
    ap closed_state (sym is) ∙ map-set closed_stream streams place next ∙ ap (λ l. slice_set l place (closed_stream next)) closed_before
    ∙ ap (slice_set streams place) again ∙ is

pub MayStep-mark : (streams : List Stream) (name : List ℕ) (t : ℕ) (what : Mark) (place : ℕ) (s : Stream) → IsState streams →
    refuses streams (event_of name t what) ≡ None → CanBeSaid (event_of name t what) → slice_get streams place ≡ Some s → same_name name s.name ≡ true →
    (IsInOpen what → has_open s.landmarks ≡ true) → closed_state streams ≡ streams → MayStep streams (event_of name t what) place (with_mark s t what)
MayStep-mark streams name t what place s state none said here named begun closed_before =
    let is = stepped-mark streams name t what place s state.names here named begun in
    record {
      state = state;
      none = none;
      said = said;
      is = is;
      closed = closed-set streams (event_of name t what) place (with_mark s t what) is closed_before
          (closed-mark s t what (closed-at streams place s closed_before here));
    }

-- a stream of a state that may take a value outside landmarks, and is the one of the name
pub record MayTake (streams : List Stream) (name : List ℕ) (t : ℕ) (v : ℤ) (place : ℕ) (s : Stream) : Type 0 where
  pub state : IsState streams
  pub none : refuses streams (Value name t v) ≡ None
  pub said : CanBeSaid (Value name t v)
  pub here : slice_get streams place ≡ Some s
  pub named : same_name name s.name ≡ true
  pub plain : has_open s.landmarks ≡ false
  pub later : is_past (last_time s) t ≡ false
  pub few : values_in s < MOST_VALUES

module _ (streams : List Stream) (name : List ℕ) (t : ℕ) (v : ℤ) (place : ℕ) (s : Stream) (may : MayTake streams name t v place s) where
  pub stepped-set : slice_set streams place (with_plain_value s (t, v, New)) ≡ stepped streams (Value name t v)
  stepped-set =
      sym (stepped-value streams name t v ∙ map-changed name (λ u. with_taken u (t, v, New)) streams place s may.state.names may.here may.named
      ∙ ap (slice_set streams place) (taken-plain s t v may.plain))

  single-is : IsStream (with_single s t v)
  single-is =
      IsStream-single s (t, v, New) (IsStream-at streams place s may.state may.here) may.plain may.later may.few
      (IsPossible-single (t, v, New) may.said.0 may.said.1)

  values-single : values_in (with_single s t v) ≡ values_in s + 1
  values-single =
      let w = single_window (values_in s + 1) (t, v, New) in
      omega (arith, taken-append s.windows (w ∷ []), taken-cons w [], count-summary_of ((t, v, New) ∷ []))

  closed-single : closed_stream (with_single s t v) ≡ with_plain_value s (t, v, New)
  closed-single =
      let w = single_window (values_in s + 1) (t, v, New) in
      ap (λ n. with_windows s (closed (rule_of s.params) n (s.windows ++ w ∷ []))) values-single

  pub IsState-single : IsState (slice_set streams place (with_single s t v))
  IsState-single =
      let u = with_single s t v in
      let inside = slice_get_within streams place s may.here in
      let can = CanAppend-refuses streams name t v may.none in
      let w = single_window (values_in s + 1) (t, v, New) in
      let long : records_of u ≡ records_of s + 1 = omega (arith, length_push s.windows w) in
      record {
        each = All-set IsStream streams place u single-is may.state.each;
        numbers = rw (map-set_same (λ (x : Stream). x.number) streams place s u may.here refl) may.state.numbers;
        names = rw (map-set_same (λ (x : Stream). x.name) streams place s u may.here refl) may.state.names;
        few = omega (arith, may.state.few, length-set streams place u);
        room = omega (
          arith,
          below-has_all_records (live streams) can.records,
          sum_by-set records_of streams place u s inside,
          ap records_of (get_or_from_slice_get streams place s s may.here),
          long,
        );
      }

  -- the state closes to the one with the value, also before any windows were joined
  pub closed-partly : closed_state streams ≡ streams → closed_state (slice_set streams place (with_single s t v)) ≡ stepped streams (Value name t v)
  closed-partly closed_before =
      map-set closed_stream streams place (with_single s t v) ∙ ap (λ l. slice_set l place (closed_stream (with_single s t v))) closed_before
      ∙ ap (slice_set streams place) closed-single ∙ stepped-set

  closed-valued : closed_stream (with_plain_value s (t, v, New)) ≡ with_plain_value s (t, v, New)
  closed-valued = ap closed_stream (sym closed-single) ∙ closed_stream-again (with_single s t v) single-is ∙ closed-single

  pub MayStep-valued : closed_state streams ≡ streams → MayStep streams (Value name t v) place (with_plain_value s (t, v, New))
  MayStep-valued closed_before = record {
    state = may.state;
    none = may.none;
    said = may.said;
    is = stepped-set;
    closed = closed-set streams (Value name t v) place (with_plain_value s (t, v, New)) stepped-set closed_before closed-valued;
  }
