-- Streams that own the same are alike, and so are the refusals of their events, but for room.
use Rattle.std.proofs.Common.{◌≡◌, ◌∙◌, ℕ, Bool, true, false, not, List, [], ◌∷◌, map, refl, ap, sym, subst, None, Some, inl, inr}
use Rattle.std.specs.Prelude.{◌⊎◌, All, Option, fold, is_some, ⊤}
use Rattle.std.specs.Option.{option_map}
use Rattle.ss_catalog.specs.Events.{event_name}
use Rattle.ss_catalog.specs.declared.event.Event.{Event}
use Rattle.ss_catalog.specs.declared.event.Event.TheVariants.{Create, Value, Open, Close, Drop}
use Rattle.ss_catalog.specs.declared.params.Params.{Params}
use Rattle.ss_catalog.specs.declared.refusal.Refusal.{Refusal}
use Rattle.ss_catalog.specs.declared.refusal.Refusal.TheVariants as refusal
use Rattle.ss_summary.specs.Points.{Origin}
use Rattle.ss_targets.specs.Lengths.{has_target}
use Rattle.ss_model.specs.History.{Given, Happened, added, events_of, given_after, given_to, landmarks_of, nothing_given, values_of}
use Rattle.ss_model.specs.Marks.{has_open}
use Rattle.ss_model.specs.Refusals.{IsHistory, first_that_applies, has_all_records, has_all_streams, has_most_values, is_before, is_early, is_past, of_outline}
use Rattle.ss_model.specs.Refusals.{refuses}
use Rattle.ss_model.specs.Outline.{outline_named, outline_of}
use Rattle.ss_model.specs.State.{Stream, live, numbers_of, state, stream_named}
use Rattle.ss_targets.specs.Rule.{rule_of}
use Rattle.ss_model.specs.Windows.{windows}
use Rattle.ss_model.proofs.FoundLemmas.{All-around, found, stream_named-at}
use Rattle.ss_model.proofs.HistoryLemmas.{IsState-state}
use Rattle.ss_model.proofs.NameLemmas.{same_name-Decides}
use Rattle.ss_model.proofs.ReadLemmas.{All-state}
use Rattle.ss_model.proofs.StepLemmas.{CanAppend-refuses, CanCloseAt-refuses, CanCreate-refuses, CanOpenAt-refuses, stands-outline}
use Rattle.ss_replica.specs.Fronts.{AreAlikeStreams, drops_none}
use Rattle.ss_replica.specs.Own.{counted, own}
use Rattle.ss_replica.proofs.OwnLemmas.{counts, own-none, own-some}

-- ---- what a stream was given is what those events give that it owns

abbrev give : Given → Happened → Given
give given e = given_after e.1 given e.0

abbrev given_by : List Happened → Given
given_by events = fold give nothing_given events

-- nothing depends on where an event is from that is no value
give-counted : (given : Given) (origin : Origin) (event : Event) → give given (counted origin event) ≡ given_after origin given event
give-counted given origin (Create name params) = refl
give-counted given origin (Value name t v) = refl
give-counted given origin (Open name t) = refl
give-counted given origin (Close name t) = refl
give-counted given origin (Drop name) = refl

give-counts : (given : Given) (events : List Happened) → fold give given (map counts events) ≡ fold give given events
give-counts given [] = refl
give-counts given (e ∷ es) = ap (λ g. fold give g (map counts es)) (give-counted given e.1 e.0) ∙ give-counts (give given e) es

given_to-own : (history : List Happened) (name : List ℕ) (s : Stream) → IsHistory history → stream_named name (state history) ≡ Some s →
    given_to history name ≡ given_by (own history name)
given_to-own history name s whole found =
    sym (ap given_by (own-some history name s whole found) ∙ give-counts nothing_given (events_of history name))

-- ---- a stream by what it owns

-- what holds of each stream of a state holds of the one that its name finds
named-each : (P : Stream → Type 0) (history : List Happened) (name : List ℕ) (s : Stream) → IsHistory history →
    stream_named name (state history) ≡ Some s → All P (state history) → P s × (name ≡ s.name)
named-each P history name s whole is each =
    let at = found name (state history) (IsState-state history whole).names (ap is_some is) in
    let there : stream_named name (state history) ≡ Some at.stream =
    ap (stream_named name) at.is ∙ stream_named-at name at.before at.stream at.after at.none_before at.named in
    let both : Some at.stream ≡ Some s = sym there ∙ is in
    let same : at.stream ≡ s = cc in
    let one = (All-around P at.before at.stream at.after (subst (All P) at.is each)).one in
    (subst P same one, (same_name-Decides name at.stream.name).0 at.named ∙ ap (λ (u : Stream). u.name) same)

-- what is read off a stream by what it owns
record IsOwn (history : List Happened) (name : List ℕ) (s : Stream) : Type 0 where
  name_is : name ≡ s.name
  windows : s.windows ≡ windows (rule_of s.params) (given_by (own history name)).plain
  landmarks : s.landmarks ≡ (given_by (own history name)).landmarks

IsOwn-named : (history : List Happened) (name : List ℕ) (s : Stream) → IsHistory history → stream_named name (state history) ≡ Some s → IsOwn history name s
IsOwn-named history name s whole is =
    let its = named-each (λ (u : Stream). u.windows ≡ windows (rule_of u.params) (values_of history u.name)) history name s whole is
    (All-state (λ (u : Stream). u.windows ≡ windows (rule_of u.params) (values_of history u.name)) history (λ c. refl)) in
    let marks = named-each (λ (u : Stream). u.landmarks ≡ landmarks_of history u.name) history name s whole is
    (All-state (λ (u : Stream). u.landmarks ≡ landmarks_of history u.name) history (λ c. refl)) in
    let given : given_to history s.name ≡ given_by (own history name) =
    ap (given_to history) (sym its.1) ∙ given_to-own history name s whole is in
    record {
      name_is = its.1;
      windows = its.0 ∙ ap (λ (g : Given). windows (rule_of s.params) g.plain) given;
      landmarks = marks.0 ∙ ap (λ (g : Given). g.landmarks) given;
    }

-- the parameters of the create that comes first
created_with : Params → Event → Params
created_with d (Create name params) = params
created_with d (Value name t v) = d
created_with d (Open name t) = d
created_with d (Close name t) = d
created_with d (Drop name) = d

first_params : Params → List Happened → Params
first_params d [] = d
first_params d (e ∷ es) = created_with d e.0

module _ (history other : List Happened) (name : List ℕ) (whole : IsHistory history) (whole_other : IsHistory other)
    (same : own history name ≡ own other name) where
  params-own : (s u : Stream) → stream_named name (state history) ≡ Some s → stream_named name (state other) ≡ Some u → s.params ≡ u.params
  unfolding first_params created_with
  params-own s u is its =
      ap (first_params s.params) (sym (own-some history name s whole is) ∙ same ∙ own-some other name u whole_other its)

  -- streams that own the same are alike
  pub alike-own : (s u : Stream) → stream_named name (state history) ≡ Some s → stream_named name (state other) ≡ Some u → AreAlikeStreams s u
  alike-own s u is its =
      let first = IsOwn-named history name s whole is in
      let second = IsOwn-named other name u whole_other its in
      let params = params-own s u is its in
      record {
        name = sym first.name_is ∙ second.name_is;
        params = params;
        windows = first.windows ∙ ap (λ (p : Params). windows (rule_of p) (given_by (own history name)).plain) params
            ∙ ap (λ (es : List Happened). windows (rule_of u.params) (given_by es).plain) same ∙ sym second.windows;
        landmarks = first.landmarks ∙ ap (λ (es : List Happened). (given_by es).landmarks) same ∙ sym second.landmarks;
      }

-- streams that are found are alike, and none is found where none is
abbrev pub FoundAlike : Option Stream → Option Stream → Type 0
FoundAlike None None = ⊤
FoundAlike None (Some u) = ⊥
FoundAlike (Some s) None = ⊥
FoundAlike (Some s) (Some u) = AreAlikeStreams s u

module _ (history other : List Happened) (name : List ℕ) (whole : IsHistory history) (whole_other : IsHistory other)
    (same : own history name ≡ own other name) where
  alike-found : (o p : Option Stream) → stream_named name (state history) ≡ o → stream_named name (state other) ≡ p → FoundAlike o p
  alike-found None None is its = tt
  alike-found None (Some u) is its =
      let wrong : [] ≡ added (Create name u.params) ∷ map counts (events_of other name) =
      sym (own-none history name whole is) ∙ same ∙ own-some other name u whole_other its in
      cc
  alike-found (Some s) None is its =
      let wrong : [] ≡ added (Create name s.params) ∷ map counts (events_of history name) =
      sym (own-none other name whole_other its) ∙ sym same ∙ own-some history name s whole is in
      cc
  alike-found (Some s) (Some u) is its = alike-own history other name whole whole_other same s u is its

  pub found-own : FoundAlike (stream_named name (state history)) (stream_named name (state other))
  found-own = alike-found (stream_named name (state history)) (stream_named name (state other)) refl refl

-- ---- refusals

-- streams that are alike have one outline
outline-alike : (o p : Option Stream) → FoundAlike o p → option_map outline_of o ≡ option_map outline_of p
outline-alike None None alike = refl
outline-alike None (Some u) alike = absurd alike
outline-alike (Some s) None alike = absurd alike
outline-alike (Some s) (Some u) alike = rw (alike.windows, alike.landmarks) refl

-- the refusals that say that the store has no room
abbrev pub IsOfRoom : Refusal → Type 0
IsOfRoom r = (r ≡ refusal.Streams) ⊎ (r ≡ refusal.StoreFull)

room-create : (a b c d : Bool) (r : Refusal) → a ≡ true → b ≡ false →
    first_that_applies ((not a, refusal.Param) ∷ (b, refusal.Exists) ∷ (c, refusal.Streams) ∷ (d, refusal.StoreFull) ∷ []) ≡ Some r → IsOfRoom r
room-create true false true d r target new is = let same : refusal.Streams ≡ r = cc in inl (sym same)
room-create true false false true r target new is = let same : refusal.StoreFull ≡ r = cc in inr (sym same)
room-create true false false false r target new is = cc
room-create true true c d r target new is = cc
room-create false b c d r target new is = cc

room-last : (a b c d : Bool) (p q x r : Refusal) → a ≡ true → b ≡ false → c ≡ false →
    first_that_applies ((not a, p) ∷ (b, q) ∷ (c, x) ∷ (d, refusal.StoreFull) ∷ []) ≡ Some r → IsOfRoom r
room-last true false false true p q x r known first second is = let same : refusal.StoreFull ≡ r = cc in inr (sym same)
room-last true false false false p q x r known first second is = cc
room-last true false true d p q x r known first second is = cc
room-last true true c d p q x r known first second is = cc
room-last false b c d p q x r known first second is = cc

room-none : (a b c : Bool) (p q x r : Refusal) → a ≡ true → b ≡ false → c ≡ false →
    first_that_applies ((not a, p) ∷ (b, q) ∷ (c, x) ∷ []) ≡ Some r → IsOfRoom r
room-none true false false p q x r known first second is = cc
room-none true false true p q x r known first second is = cc
room-none true true c p q x r known first second is = cc
room-none false b c p q x r known first second is = cc

-- what isn't refused of a stream is refused of one that is alike for room alone
pub refuses-alike : (streams others : List Stream) (event : Event) → drops_none event ≡ true →
    FoundAlike (stream_named (event_name event) streams) (stream_named (event_name event) others) → refuses others event ≡ None → (r : Refusal) →
    refuses streams event ≡ Some r → IsOfRoom r
unfolding refuses
refuses-alike streams others (Create name params) kept alike none r is =
    let can = CanCreate-refuses others name params none in
    let same = outline-alike (stream_named name streams) (stream_named name others) alike in
    room-create (has_target params) (is_some (outline_named name streams)) (has_all_streams (numbers_of streams)) (has_all_records (live streams)) r can.target
    (ap is_some same ∙ stands-outline (stream_named name others) ∙ can.new) is
refuses-alike streams others (Value name t v) kept alike none r is =
    let can = CanAppend-refuses others name t v none in
    let same = outline-alike (stream_named name streams) (stream_named name others) alike in
    let stream = outline_named name streams in
    room-last (is_some stream) (of_outline stream (λ s. is_early s t)) (of_outline stream has_most_values) (has_all_records (live streams))
    refusal.Unknown refusal.Time refusal.StreamFull r (ap is_some same ∙ stands-outline (stream_named name others) ∙ can.known)
    (ap (λ o. of_outline o (λ s. is_early s t)) same ∙ can.later) (ap (λ o. of_outline o has_most_values) same ∙ can.few) is
refuses-alike streams others (Open name t) kept alike none r is =
    let can = CanOpenAt-refuses others name t none in
    let same = outline-alike (stream_named name streams) (stream_named name others) alike in
    let stream = outline_named name streams in
    room-last (is_some stream) (of_outline stream (λ s. has_open s.landmarks)) (of_outline stream (λ s. is_past s.last_time t))
    (has_all_records (live streams)) refusal.Unknown refusal.Open refusal.Time r (ap is_some same ∙ stands-outline (stream_named name others) ∙ can.known)
    (ap (λ o. of_outline o (λ s. has_open s.landmarks)) same ∙ can.closed) (ap (λ o. of_outline o (λ s. is_past s.last_time t)) same ∙ can.later) is
refuses-alike streams others (Close name t) kept alike none r is =
    let can = CanCloseAt-refuses others name t none in
    let same = outline-alike (stream_named name streams) (stream_named name others) alike in
    let stream = outline_named name streams in
    room-none (is_some stream) (of_outline stream (λ s. not (has_open s.landmarks))) (of_outline stream (λ s. is_before s.last_time t))
    refusal.Unknown refusal.NotOpen refusal.Time r (ap is_some same ∙ stands-outline (stream_named name others) ∙ can.known)
    (ap (λ o. of_outline o (λ s. not (has_open s.landmarks))) same ∙ can.begun) (ap (λ o. of_outline o (λ s. is_before s.last_time t)) same ∙ can.later) is
refuses-alike streams others (Drop name) kept alike none r is = cc
