-- What every state meets, through one step.
use Rattle.ss_model.proofs.Common.{◌≡◌, ℕ, ◌+◌, ◌<◌, ◌≤◌, Bool, false, not, List, [], ◌∷◌, ◌++◌, length, refl, ap, sym, ◌∙◌, arith, None, Some, subst, inl, inr}
use Rattle.ss_model.proofs.Common.{All, Option, FitsSigned, nat_le, ◌==◌, w64, list_any, cases_Bool, cond-false, cond-true, cond_both, eqb-false, not-false}
use Rattle.ss_model.proofs.Common.{nat_tests, length_push, length-append, length-map, map-append, All-nil, All-head, All-tail, All-cons, All-append, All-push}
use Rattle.ss_model.proofs.Common.{sum_by-append, sum_by-cons, LAST_STREAM, LAST_TIME, Event, Create, Value, Open, Close, Drop, Params, IsPossible, summary_of}
use Rattle.ss_model.proofs.Common.{MOST_VALUES, Point, Origin, closed, closed_onto, joined_window, may_join, IsInStep, CanBeSaid, has_open, with_closed}
use Rattle.ss_model.proofs.Common.{with_marked, with_opened, has_all_records, is_before, is_early, has_most_values, is_past, of_outline, outline_named}
use Rattle.ss_model.proofs.Common.{outline_of, refuses, IsStream, IsState, Rule, rule_of, Stream, next_number, numbers_of, names_of, stream_named, values_in}
use Rattle.ss_model.proofs.Common.{last_time, live, records_of, change_named, single_window, with_taken, with_plain_value, MOST_RECORDS, Window, Outline}
use Rattle.ss_model.proofs.Common.{option_map}
use Rattle.std.proofs.Common.{ℤ}
use Rattle.std.specs.List.{IsDistinct}
use Rattle.std.proofs.lemmas.Bool.{or_parts}
use Rattle.std.proofs.lemmas.List.Sums.{sum_by_push}
use Rattle.ss_catalog.specs.declared.TheConstants.{MOST_STREAMS}
use Rattle.ss_base.specs.declared.limits.TheConstants.{LAST_TIME}
use Rattle.ss_summary.proofs.Values.{IsPossible-summary_of}
use Rattle.ss_model.specs.Steps.{stepped_from}
use Rattle.ss_model.proofs.DropLemmas.{IsState-without}
use Rattle.ss_model.proofs.FoundLemmas.{IsFound, found, changed-found, stream_named-at, below_next, IsStrictlyIncreasing_push, IsDistinct_push, All-around}
use Rattle.ss_model.proofs.StepLemmas.{CanCreate, CanAppend, CanOpenAt, CanCloseAt, CanCreate-refuses, CanAppend-refuses, CanOpenAt-refuses, CanCloseAt-refuses}
use Rattle.ss_model.proofs.StreamLemmas.{IsStream-closed, IsStream-marked, IsStream-opened, IsStream-value, past-early, records_of-closed, records_of-marked}
use Rattle.ss_model.proofs.StreamLemmas.{records_of-opened}
use Rattle.ss_model.proofs.Tiles.{AreWindows-nil}

-- closing makes no windows
length-closed_onto : (rule : Rule) (n : ℕ) (w : Window) (ws : List Window) → length (closed_onto rule n w ws) ≤ length (w ∷ ws)
length-closed_onto rule n w [] = omega arith
length-closed_onto rule n w (v ∷ vs) =
    let joined = length-closed_onto rule n (joined_window w v) vs in
    let apart = length-closed_onto rule n v vs in
    cond_both (may_join rule n w v) (closed_onto rule n (joined_window w v) vs) (w ∷ closed_onto rule n v vs)
    (λ us. length us ≤ length (w ∷ v ∷ vs)) (λ fit. omega arith) (λ unfit. omega arith)

pub length-closed_le : (rule : Rule) (n : ℕ) (ws : List Window) → length (closed rule n ws) ≤ length ws
length-closed_le rule n [] = omega arith
length-closed_le rule n (w ∷ ws) = length-closed_onto rule n w ws

-- a time that isn't past is later than the last one
pub later-is_past : (last : Option ℕ) (t : ℕ) → is_past last t ≡ false → (old : ℕ) → last ≡ Some old → old < t
later-is_past last t later old is = let here : is_past (Some old) t ≡ false = ap (λ o. is_past o t) (sym is) ∙ later in grind (arith, nat_tests)

pub IsState-nil : IsState []
unfolding IsDistinct
IsState-nil = record {
  each = All-nil IsStream;
  numbers = λ k inside. absurd (omega arith);
  names = tt;
  few = omega arith;
  room = omega arith;
}

-- a number is left where the last one isn't taken
next_number-le : (streams : List Stream) → All IsStream streams → list_any (λ number. number == LAST_STREAM) (numbers_of streams) ≡ false →
    next_number (numbers_of streams) ≤ LAST_STREAM
next_number-le [] each none = omega arith
next_number-le (s ∷ ss) each none =
    let free = or_parts (s.number == LAST_STREAM) (list_any (λ number. number == LAST_STREAM) (numbers_of ss)) none in
    let one = All-head IsStream s ss each in
    let low = one.number in
    let apart = eqb-false s.number LAST_STREAM free.0 in
    let rest = next_number-le ss (All-tail IsStream s ss each) free.1 in
    omega (arith, apart)

-- a place is left for one more record
pub below-has_all_records : (records : ℕ) → has_all_records records ≡ false → records < MOST_RECORDS
below-has_all_records records room = grind (arith, nat_tests)

below-has_all_streams : (streams : List Stream) → nat_le MOST_STREAMS (length (numbers_of streams)) ≡ false → length streams < MOST_STREAMS
below-has_all_streams streams room = let count = length-map streams (λ (s : Stream). s.number) in grind (arith, nat_tests)

IsState-create : (origin : Origin) (streams : List Stream) (name : List ℕ) (params : Params) → IsState streams → CanCreate streams name params →
    IsState (stepped_from origin streams (Create name params))
unfolding stepped_from
IsState-create origin streams name params before can =
    let number = next_number (numbers_of streams) in
    let new : Stream = record { number = number; name = name; params = params; windows = []; landmarks = [] } in
    let limits = or_parts (nat_le MOST_STREAMS (length (numbers_of streams))) (list_any (λ number. number == LAST_STREAM) (numbers_of streams)) can.room in
    record {
      each = All-push IsStream streams new before.each
          (record {
            target = can.target;
            number = next_number-le streams before.each limits.1;
            windows = AreWindows-nil;
            steps = All-nil (IsInStep (rule_of params).step);
            landmarks = tt;
            free = refl;
          });
      numbers = rw (map-append (λ (s : Stream). s.number) streams (new ∷ []))
          (IsStrictlyIncreasing_push (numbers_of streams) number before.numbers (below_next (numbers_of streams)));
      names = rw (map-append (λ (s : Stream). s.name) streams (new ∷ [])) (IsDistinct_push streams name before.names can.new);
      few = omega (arith, length_push streams new, below-has_all_streams streams limits.0);
      room = omega (arith, sum_by_push records_of streams new, below-has_all_records (live streams) can.records);
    }

-- one more record at most
records_of-value : (s : Stream) (p : Point) → records_of (with_plain_value s p) ≤ records_of s + 1
records_of-value s p =
    let n = values_in s + 1 in
    omega (arith, length-closed_le (rule_of s.params) n (s.windows ++ single_window n p ∷ []), length_push s.windows (single_window n p))

-- another stream of the same name and number in the place of one
IsState-set : (before after : List Stream) (s u : Stream) → IsState (before ++ s ∷ after) → u.number ≡ s.number → u.name ≡ s.name →
    IsStream u → live (before ++ u ∷ after) ≤ MOST_RECORDS → IsState (before ++ u ∷ after)
IsState-set before after s u was number name sound room =
    let around = All-around IsStream before s after was.each in
    let numbers : numbers_of (before ++ u ∷ after) ≡ numbers_of (before ++ s ∷ after) =
    rw (map-append (λ (x : Stream). x.number) before (u ∷ after), map-append (λ (x : Stream). x.number) before (s ∷ after), number) refl in
    let names : names_of (before ++ u ∷ after) ≡ names_of (before ++ s ∷ after) =
    rw (map-append (λ (x : Stream). x.name) before (u ∷ after), map-append (λ (x : Stream). x.name) before (s ∷ after), name) refl in
    record {
      each = All-append IsStream before (u ∷ after) around.all_before (All-cons IsStream u after sound around.all_after);
      numbers = rw numbers was.numbers;
      names = rw names was.names;
      few = omega (arith, was.few, length-append before (u ∷ after), length-append before (s ∷ after));
      room = room;
    }

pub live-around : (before : List Stream) (s : Stream) (after : List Stream) → live (before ++ s ∷ after) ≡ live before + records_of s + live after
live-around before s after = omega (arith, sum_by-append records_of before (s ∷ after), sum_by-cons records_of s after)

-- a stream that is changed: it stays one, with its number and name, and needs no more than so many records more
pub record ChangesTo (s u : Stream) (more : ℕ) : Type 0 where
  pub number : u.number ≡ s.number
  pub name : u.name ≡ s.name
  pub sound : IsStream u
  pub few : records_of u ≤ records_of s + more

IsState-change : (name : List ℕ) (streams : List Stream) (at : IsFound name streams) (change : Stream → Stream) (more : ℕ) → IsState streams →
    ChangesTo at.stream (change at.stream) more → live streams + more ≤ MOST_RECORDS → IsState (change_named name change streams)
IsState-change name streams at change more was to room =
    let u = change at.stream in
    let old : live streams ≡ live at.before + records_of at.stream + live at.after = ap live at.is ∙ live-around at.before at.stream at.after in
    let new = live-around at.before u at.after in
    subst (λ ss. IsState ss) (sym (changed-found at change))
    (IsState-set at.before at.after at.stream u (subst (λ ss. IsState ss) at.is was) to.number to.name to.sound
    (omega (arith, to.few, room, old, new)))

-- what is asked of the stream of a name is asked of the one that is found, and that one is a stream
module _ {name : List ℕ} {streams : List Stream} (at : IsFound name streams) where
  outline-found : (test : Outline → Bool) → of_outline (outline_named name streams) test ≡ test (outline_of at.stream)
  outline-found test =
      ap (λ o. of_outline (option_map outline_of o) test)
      (ap (stream_named name) at.is ∙ stream_named-at name at.before at.stream at.after at.none_before at.named)

  IsStream-found : IsState streams → IsStream at.stream
  IsStream-found was = (All-around IsStream at.before at.stream at.after (subst (All IsStream) at.is was.each)).one

pub IsPossible-single : (p : Point) → p.0 ≤ LAST_TIME → FitsSigned w64 p.1 → IsPossible (summary_of (p ∷ []))
IsPossible-single p early fits =
    IsPossible-summary_of (p ∷ []) (record { some = omega arith; few = omega arith; rising = (omega arith, early, fits, tt) })

-- a value, which is the open landmark's, where one is open
pub ChangesTo-value : (s : Stream) (p : Point) → IsStream s → is_early (outline_of s) p.0 ≡ false → has_most_values (outline_of s) ≡ false → p.0 ≤ LAST_TIME →
    FitsSigned w64 p.1 → ChangesTo s (with_taken s p) 1
ChangesTo-value s p sound later few early fits = elim (cases_Bool (has_open s.landmarks)) [
  | inl begun ↦
      (let u : Stream = record s { landmarks = with_marked s.landmarks p.0 p.1 } in
      let is : with_taken s p ≡ u = cond-true (has_open s.landmarks) u (with_plain_value s p) begun in
      let records = records_of-marked s p.0 p.1 begun in
      subst (λ x. ChangesTo s x 1) (sym is)
      (record { number = refl; name = refl; sound = IsStream-marked s p.0 p.1 sound begun later early fits; few = omega (arith, records) }))
  | inr none ↦
      (let u : Stream = record s { landmarks = with_marked s.landmarks p.0 p.1 } in
      let is : with_taken s p ≡ with_plain_value s p = cond-false (has_open s.landmarks) u (with_plain_value s p) none in
      let room : nat_le MOST_VALUES (values_in s) ≡ false = rw none at few in
      let below : values_in s < MOST_VALUES = grind (arith, nat_tests) in
      subst (λ x. ChangesTo s x 1) (sym is)
      (record {
        number = refl;
        name = refl;
        sound = IsStream-value s p sound none (past-early s p.0 none later) below (IsPossible-single p early fits);
        few = records_of-value s p;
      }))
]

-- a landmark that opens, and one that closes
pub ChangesTo-opened : (s : Stream) (t : ℕ) → IsStream s → has_open s.landmarks ≡ false → is_past (last_time s) t ≡ false → t ≤ LAST_TIME →
    ChangesTo s (record s { landmarks = with_opened s.landmarks t }) 1
ChangesTo-opened s t sound none later early =
    let records = records_of-opened s t in
    record { number = refl; name = refl; sound = IsStream-opened s t sound none later early; few = omega (arith, records) }

pub ChangesTo-closed : (s : Stream) (t : ℕ) → IsStream s → not (has_open s.landmarks) ≡ false → is_before (last_time s) t ≡ false → t ≤ LAST_TIME →
    ChangesTo s (record s { landmarks = with_closed s.landmarks t }) 0
ChangesTo-closed s t sound begun later early =
    let records = records_of-closed s t in
    record {
      number = refl;
      name = refl;
      sound = IsStream-closed s t sound (not-false (has_open s.landmarks) begun) later early;
      few = omega (arith, records);
    }

IsState-value : (origin : Origin) (streams : List Stream) (name : List ℕ) (t : ℕ) (v : ℤ) → IsState streams → CanAppend streams name t →
    t ≤ LAST_TIME → FitsSigned w64 v → IsState (stepped_from origin streams (Value name t v))
unfolding stepped_from
IsState-value origin streams name t v was can early fits =
    let at = found name streams was.names can.known in
    let room = below-has_all_records (live streams) can.records in
    IsState-change name streams at (λ s. with_taken s (t, v, origin)) 1 was
    (ChangesTo-value at.stream (t, v, origin) (IsStream-found at was) (sym (outline-found at (λ s. is_early s t)) ∙ can.later)
    (sym (outline-found at has_most_values) ∙ can.few) early fits)
    (omega (arith, room))

IsState-open : (origin : Origin) (streams : List Stream) (name : List ℕ) (t : ℕ) → IsState streams → CanOpenAt streams name t → t ≤ LAST_TIME →
    IsState (stepped_from origin streams (Open name t))
unfolding stepped_from
IsState-open origin streams name t was can early =
    let at = found name streams was.names can.known in
    let room = below-has_all_records (live streams) can.records in
    IsState-change name streams at (λ s. record s { landmarks = with_opened s.landmarks t }) 1 was
    (ChangesTo-opened at.stream t (IsStream-found at was) (sym (outline-found at (λ s. has_open s.landmarks)) ∙ can.closed)
    (sym (outline-found at (λ s. is_past s.last_time t)) ∙ can.later) early)
    (omega (arith, room))

IsState-close : (origin : Origin) (streams : List Stream) (name : List ℕ) (t : ℕ) → IsState streams → CanCloseAt streams name t → t ≤ LAST_TIME →
    IsState (stepped_from origin streams (Close name t))
unfolding stepped_from
IsState-close origin streams name t was can early =
    let at = found name streams was.names can.known in
    IsState-change name streams at (λ s. record s { landmarks = with_closed s.landmarks t }) 0 was
    (ChangesTo-closed at.stream t (IsStream-found at was) (sym (outline-found at (λ s. not (has_open s.landmarks))) ∙ can.begun)
    (sym (outline-found at (λ s. is_before s.last_time t)) ∙ can.later) early)
    (omega (arith, was.room))

IsState-dropped : (origin : Origin) (streams : List Stream) (name : List ℕ) → IsState streams → IsState (stepped_from origin streams (Drop name))
unfolding stepped_from
IsState-dropped origin streams name was = IsState-without name streams was

pub IsState-stepped : (origin : Origin) (streams : List Stream) (event : Event) → IsState streams → CanBeSaid event → refuses streams event ≡ None →
    IsState (stepped_from origin streams event)
IsState-stepped origin streams (Create name params) was said none = IsState-create origin streams name params was (CanCreate-refuses streams name params none)
IsState-stepped origin streams (Value name t v) was said none =
    IsState-value origin streams name t v was (CanAppend-refuses streams name t v none) said.0 said.1
IsState-stepped origin streams (Open name t) was said none = IsState-open origin streams name t was (CanOpenAt-refuses streams name t none) said
IsState-stepped origin streams (Close name t) was said none = IsState-close origin streams name t was (CanCloseAt-refuses streams name t none) said
IsState-stepped origin streams (Drop name) was said none = IsState-dropped origin streams name was
