-- Why an event is refused, by the tests that are made over what is held.
use Rattle.ss_store.proofs.Common.{◌≡◌, ℕ, ℤ, Bool, true, false, not, ◌&&◌, List, [], ◌∷◌, length, flat_map, refl, ap, sym, ◌∙◌, None, Some, if◌then◌else◌}
use Rattle.ss_store.proofs.Common.{nat_le, Event, Params, Refusal, Landmark, open_landmark, has_target, MOST_VALUES, has_open, first_that_applies}
use Rattle.ss_store.proofs.Common.{is_opening, is_past, IsState, IsStream, Stream, stream_named, MOST_RECORDS, AllAgree}
use Rattle.ss_store.proofs.Common.{Agrees, entries_of, slots_held, StreamParts, values_held, numbers_held}
use Rattle.ss_store.proofs.Common.{of_part, part_named, IsInOpen, event_of, mark_refusal, slot_refusal, Mark}
use Rattle.std.proofs.Common.{is_some}
use Rattle.std.specs.Prelude.{Option}
use Rattle.std.specs.Option.{option_map}
use Rattle.ss_catalog.specs.Events.{event_name}
use Rattle.ss_catalog.specs.declared.event.Event.TheVariants as events
use Rattle.ss_catalog.specs.declared.refusal.Refusal.TheVariants as refusal
use Rattle.ss_model.specs.Outline.{Outline, outline_named, outline_of}
use Rattle.ss_model.specs.Refusals.{has_all_streams, has_most_values, is_early, refusals, refuses}
use Rattle.ss_store.specs.Kept.{refuses_held}
use Rattle.ss_stream.specs.declared.marking.Mark.TheVariants as marks
use Rattle.ss_stream.specs.Held.{outline_held}
use Rattle.ss_stream.proofs.HeldCounts.{values_held-Agrees}
use Rattle.ss_store.proofs.LiveCounts.{length-slots}
use Rattle.ss_store.proofs.Named.{AreFound-named, is_some-option_map, numbers-AllAgree, stands-held}

pub none_is_some : {X : Type 0} (o : Option X) → is_some o ≡ false → o ≡ None
none_is_some None none = refl
none_is_some (Some x) none = (let wrong : true ≡ false = none in cc)

pub not-true : (b : Bool) → (b ≡ true → ⊥) → b ≡ false
not-true true never = absurd (never refl)
not-true false never = refl

-- ---- by what is held

-- the stream of a name has what its part has
pub of_part-named : (parts : List StreamParts) (name : List ℕ) (part : StreamParts) (test : StreamParts → Bool) → part_named name parts ≡ Some part →
    of_part name parts test ≡ test part
of_part-named parts name part test named = rw named refl

-- a create is judged by four tests
pub refuses_held-create : (parts : List StreamParts) (name : List ℕ) (params : Params) (a b c d : Bool) →
    has_target params ≡ a → is_some (part_named name parts) ≡ b → has_all_streams (numbers_held parts) ≡ c →
    nat_le MOST_RECORDS (length (flat_map slots_held parts)) ≡ d →
    refuses_held parts (events.Create name params)
    ≡ first_that_applies ((not a, refusal.Param) ∷ (b, refusal.Exists) ∷ (c, refusal.Streams) ∷ (d, refusal.StoreFull) ∷ [])
unfolding refuses_held
refuses_held-create parts name params a b c d target known full stored =
    rw (target, is_some-option_map outline_held (part_named name parts) ∙ known, full, stored) refl

-- an event of a stream that doesn't stand
pub refuses_held-unknown : (parts : List StreamParts) (name : List ℕ) (t : ℕ) (v : ℤ) → part_named name parts ≡ None →
    refuses_held parts (events.Value name t v) ≡ Some refusal.Unknown
unfolding refuses_held
refuses_held-unknown parts name t v none = rw none refl

pub refuses_held-unmarked : (parts : List StreamParts) (name : List ℕ) (t : ℕ) (mark : Mark) → part_named name parts ≡ None →
    refuses_held parts (event_of name t mark) ≡ Some refusal.Unknown
unfolding refuses_held
refuses_held-unmarked parts name t marks.Open none = rw none refl
refuses_held-unmarked parts name t (marks.Value v) none = rw none refl
refuses_held-unmarked parts name t marks.Close none = rw none refl

-- a drop is judged by one test
pub refuses_held-undropped : (parts : List StreamParts) (name : List ℕ) → part_named name parts ≡ None →
    refuses_held parts (events.Drop name) ≡ Some refusal.Unknown
unfolding refuses_held
refuses_held-undropped parts name none = rw none refl

pub refuses_held-dropped : (parts : List StreamParts) (name : List ℕ) (part : StreamParts) → part_named name parts ≡ Some part →
    refuses_held parts (events.Drop name) ≡ None
unfolding refuses_held
refuses_held-dropped parts name part named = rw named refl

-- where none is open, none opened at a time
none-opening : (ls : List Landmark) (t : ℕ) → has_open ls ≡ false → is_opening ls t ≡ false
none-opening ls t none = rw (none_is_some (open_landmark ls) none) refl

and-true : (b : Bool) → (b && true) ≡ b
and-true true = refl
and-true false = refl

-- a value outside landmarks is judged by three more tests, by the stream of its name
pub refuses_held-value : (parts : List StreamParts) (name : List ℕ) (t : ℕ) (v : ℤ) (part : StreamParts) (b c d : Bool) →
    part_named name parts ≡ Some part → has_open part.landmarks.landmarks ≡ false → is_past part.last_time t ≡ b →
    nat_le MOST_VALUES (values_held (entries_of part)) ≡ c → nat_le MOST_RECORDS (length (flat_map slots_held parts)) ≡ d →
    refuses_held parts (events.Value name t v) ≡ first_that_applies ((b, refusal.Time) ∷ (c, refusal.StreamFull) ∷ (d, refusal.StoreFull) ∷ [])
unfolding refuses_held
refuses_held-value parts name t v part b c d named plain past full stored =
    let early : is_early (outline_held part) t ≡ b = rw (none-opening part.landmarks.landmarks t plain) (and-true (is_past part.last_time t) ∙ past) in
    let many : has_most_values (outline_held part) ≡ c = rw plain full in
    rw (named, early, many, stored) refl

-- the first refusal, if there is one, and else the other
abbrev pub or_else : Option Refusal → Option Refusal → Option Refusal
or_else None other = other
or_else (Some r) other = Some r

two-tests : (a b d : Bool) (p q r : Refusal) → first_that_applies ((a, p) ∷ (b, q) ∷ (d, r) ∷ [])
    ≡ or_else (first_that_applies ((a, p) ∷ (b, q) ∷ [])) (if d then Some r else None)
two-tests true b d p q r = refl
two-tests false true d p q r = refl
two-tests false false d p q r = refl

one-test : (a d : Bool) (p r : Refusal) → first_that_applies ((a, p) ∷ (d, r) ∷ []) ≡ or_else (first_that_applies ((a, p) ∷ [])) (if d then Some r else None)
one-test true d p r = refl
one-test false d p r = refl

none-else : (o : Option Refusal) → o ≡ or_else o None
none-else None = refl
none-else (Some r) = refl

-- an event of a landmark is judged by its stream, and then by whether a slot is free for its record
pub refuses_held-mark : (parts : List StreamParts) (name : List ℕ) (t : ℕ) (mark : Mark) (part : StreamParts) (d : Bool) →
    part_named name parts ≡ Some part → (IsInOpen mark → has_open part.landmarks.landmarks ≡ true) →
    nat_le MOST_RECORDS (length (flat_map slots_held parts)) ≡ d →
    refuses_held parts (event_of name t mark) ≡ or_else (mark_refusal part t mark) (slot_refusal mark d)
unfolding refuses_held
refuses_held-mark parts name t marks.Open part d named begun stored =
    rw (named, stored) (two-tests (has_open part.landmarks.landmarks) (is_past part.last_time t) d refusal.Open refusal.Time refusal.StoreFull)
refuses_held-mark parts name t (marks.Value v) part d named begun stored =
    let few : has_most_values (outline_held part) ≡ false = rw (begun tt) refl in
    rw (named, few, stored) (one-test (is_early (outline_held part) t) d refusal.Time refusal.StoreFull)
refuses_held-mark parts name t marks.Close part d named begun stored = rw named (none-else (mark_refusal part t marks.Close))

-- ---- by the state that it agrees with

outline-agrees : (part : StreamParts) (s : Stream) → IsStream s → Agrees part s → outline_held part ≡ outline_of s
outline-agrees part s is agrees =
    let last = agrees.last_time in
    let landmarks = agrees.landmarks in
    let values = values_held-Agrees part s is agrees in
    λ i. record { last_time = last i; landmarks = landmarks i; values = values i }

module _ (parts : List StreamParts) (streams : List Stream) (each : AllAgree parts streams) (state : IsState streams) (name : List ℕ) where
  outline-found : (o : Option StreamParts) → part_named name parts ≡ o → option_map outline_held o ≡ outline_named name streams
  outline-found None named =
      let none : stream_named name streams ≡ None = none_is_some (stream_named name streams) (sym (stands-held name parts streams each) ∙ ap is_some named) in
      rw none refl
  outline-found (Some part) named =
      let pair = AreFound-named parts streams name part each state named in
      rw pair.found_is (ap (λ (o : Outline). Some o) (outline-agrees part pair.stream pair.is pair.agrees))

-- refusals by what is held are those of the state that it agrees with
pub refuses_held-is : (parts : List StreamParts) (streams : List Stream) (event : Event) → AllAgree parts streams → IsState streams →
    refuses_held parts event ≡ refuses streams event
unfolding refuses_held refuses
refuses_held-is parts streams event each state =
    let stream = outline-found parts streams each state (event_name event) (part_named (event_name event) parts) refl in
    let numbers = numbers-AllAgree parts streams each in
    let records = length-slots parts streams each in
    λ i. first_that_applies (refusals (stream i) (numbers i) (records i) event)
