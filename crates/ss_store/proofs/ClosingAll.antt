-- Streams that are closed one after another, as they lie in an image.
use Rattle.ss_store.proofs.Common.{◌≡◌, ℕ, zero, suc, ◌<◌, ◌≤◌, List, [], ◌∷◌, length, flat_map, slice_set, zip, refl, ap, sym, ◌∙◌, arith, inl, inr}
use Rattle.ss_store.proofs.Common.{Option, Some, Result, Ok, All, Contains, cases_lt, All-head, All-tail, Contains-append_right, none-some, KnowsNow, Told}
use Rattle.ss_store.proofs.Common.{Record, closed, closed_state, closed_stream, rule_of, IsState, IsStream, Stream, values_in, JoinsDue-closed}
use Rattle.ss_store.proofs.Common.{IsStream-joined, AllAgree, records_held, StreamParts, ReadError, Turns, IsFirm, Verdict, ChangedIsHeld, window_slots_of}
use Rattle.ss_store.proofs.Common.{verdict_of_read, IsPartlyJoined, IsHeldIn, Recovers, HasRecords}
use Rattle.std.proofs.Common.{slice_get}
use Rattle.std.specs.Prelude.{Err}
use Rattle.std.proofs.lemmas.List.Elements.{Contains-append_left}
use Rattle.ss_model.proofs.StandLemmas.{length-closed_le}
use Rattle.ss_store.specs.Settling.{SomeChangedIsHeld}
use Rattle.ss_parts.specs.declared.read_error.ReadError.TheVariants as fault
use Rattle.ss_stream.proofs.Calls.{Turns-joined, Turns-same, Turns-weaker}
use Rattle.ss_store.proofs.Among.{HasRecords-set, IsHeldIn-at, IsStream-at, Recovers-held, Recovers-partly, length-AllAgree, others_of}
use Rattle.ss_store.proofs.OneOfMany.{set-same, slice_get-within}
use Rattle.ss_store.proofs.ShorterStates.{IsState-shorter, closed_stream-again}

-- the first streams closed, and the others as they were
abbrev pub closed_until : ℕ → List Stream → List Stream
closed_until zero streams = streams
closed_until (suc n) [] = []
closed_until (suc n) (s ∷ ss) = closed_stream s ∷ closed_until n ss

closed_until-at : (n : ℕ) (streams : List Stream) → slice_get (closed_until n streams) n ≡ slice_get streams n
closed_until-at zero streams = refl
closed_until-at (suc n) [] = refl
closed_until-at (suc n) (s ∷ ss) = closed_until-at n ss

closed_until-set : (n : ℕ) (streams : List Stream) (s : Stream) → slice_get streams n ≡ Some s →
    slice_set (closed_until n streams) n (closed_stream s) ≡ closed_until (suc n) streams
closed_until-set zero [] s at = absurd (cc)
closed_until-set zero (u ∷ us) s at = let same : u ≡ s = cc in ap (λ x. closed_stream x ∷ us) (sym same)
closed_until-set (suc n) [] s at = absurd (cc)
closed_until-set (suc n) (u ∷ us) s at = ap (λ l. closed_stream u ∷ l) (closed_until-set n us s at)

closed_until-past : (n : ℕ) (streams : List Stream) → length streams ≤ n → closed_until n streams ≡ closed_state streams
closed_until-past zero [] past = refl
closed_until-past zero (s ∷ ss) past = absurd (omega arith)
closed_until-past (suc n) [] past = refl
closed_until-past (suc n) (s ∷ ss) past = ap (λ l. closed_stream s ∷ l) (closed_until-past n ss (omega arith))

pub closed_until-all : (n : ℕ) (streams : List Stream) → n ≡ length streams → closed_until n streams ≡ closed_state streams
closed_until-all n streams all = closed_until-past n streams (omega arith)

length-closed_until : (n : ℕ) (streams : List Stream) → length (closed_until n streams) ≡ length streams
length-closed_until zero streams = refl
length-closed_until (suc n) [] = refl
length-closed_until (suc n) (s ∷ ss) = ap suc (length-closed_until n ss)

closed_state-until : (n : ℕ) (streams : List Stream) → All IsStream streams → closed_state (closed_until n streams) ≡ closed_state streams
closed_state-until zero streams each = refl
closed_state-until (suc n) [] each = refl
closed_state-until (suc n) (s ∷ ss) each =
    let first = closed_stream-again s (All-head IsStream s ss each) in
    let rest = closed_state-until n ss (All-tail IsStream s ss each) in
    λ i. first i ∷ rest i

-- a state of which some stream was closed
pub IsState-closed : (streams : List Stream) (place : ℕ) (s : Stream) → IsState streams → slice_get streams place ≡ Some s →
    IsState (slice_set streams place (closed_stream s))
IsState-closed streams place s state at =
    let rule = rule_of s.params in
    let n = values_in s in
    IsState-shorter streams place s (closed rule n s.windows) state at
    (IsStream-joined n s (closed rule n s.windows) (IsStream-at streams place s state at) (JoinsDue-closed rule n s.windows))
    (length-closed_le rule n s.windows)

IsState-until : (n : ℕ) (streams : List Stream) → IsState streams → IsState (closed_until n streams)
IsState-until zero streams state = state
IsState-until (suc n) streams state =
    let before = IsState-until n streams state in
    elim (cases_lt n (length streams)) [
      | inl inside ↦
          let found = slice_get-within streams n inside in
          rw (closed_until-set n streams found.0 found.1) at (IsState-closed (closed_until n streams) n found.0 before (closed_until-at n streams ∙ found.1))
      | inr past ↦ rw (closed_until-past n streams past ∙ sym (closed_until-past (suc n) streams (omega arith))) at before
    ]

pub IsState-closed_state : (streams : List Stream) → IsState streams → IsState (closed_state streams)
IsState-closed_state streams state = rw closed_until-all at (IsState-until (length streams) streams state)

pub closed_state-again : (streams : List Stream) → IsState streams → closed_state (closed_state streams) ≡ closed_state streams
closed_state-again streams state =
    ap closed_state (sym (closed_until-all (length streams) streams refl)) ∙ closed_state-until (length streams) streams state.each

-- What is held agrees with the streams, and their records lie in an image.
pub record AreHeldIn (parts : List StreamParts) (streams : List Stream) (image : List ℕ) : Type 0 where
  pub agree : AllAgree parts streams
  pub records : HasRecords (flat_map records_held (zip parts streams)) image

-- what the closing of one stream makes of all
abbrev pub ClosesOne : {T E : Type 0} → StreamParts → StreamParts → Told → Told → Result T E → Type 0
ClosesOne old new before after result =
    (others : List (ℕ × Option Record)) (s : Stream) →
    Turns (IsHeldIn others old s) (IsPartlyJoined others s) (IsHeldIn others new (closed_stream s)) before after result

pub Turns-closed_one : {T E : Type 0} (parts : List StreamParts) (part now : StreamParts) (all : List Stream) (place : ℕ) (old new : Told)
    (result : Result T E) → slice_get parts place ≡ Some part → place < length all → IsState all → ClosesOne part now old new result →
    Turns (AreHeldIn parts (closed_until place all)) (Recovers (closed_state all))
    (AreHeldIn (slice_set parts place now) (closed_until (suc place) all)) old new result
Turns-closed_one parts part now all place old new result at inside state closes =
    let mixed = closed_until place all in
    let found = slice_get-within all place inside in
    let s = found.0 in
    let stream_at : slice_get mixed place ≡ Some s = closed_until-at place all ∙ found.1 in
    let state_now = IsState-until place all state in
    let others = others_of place parts mixed in
    let within : AllAgree parts mixed → place < length parts =
    λ agree. omega (arith, length-AllAgree parts mixed agree, length-closed_until place all) in
    Turns-weaker (IsHeldIn others part s) (AreHeldIn parts mixed) (IsPartlyJoined others s) (Recovers (closed_state all))
    (IsHeldIn others now (closed_stream s)) (AreHeldIn (slice_set parts place now) (closed_until (suc place) all)) old new result
    (λ has. IsHeldIn-at parts mixed place part s old.content has.agree state_now at stream_at has.records)
    (λ has image partly.
    let same : slice_set mixed place s ≡ mixed = set-same mixed place s stream_at in
    let is : Recovers (closed_state (slice_set mixed place s)) image =
    Recovers-partly parts mixed place s image has.agree (within has.agree) (rw same state_now) partly in
    rw (ap closed_state same ∙ closed_state-until place all state.each) at is) (λ has image held.
    let both = HasRecords-set parts mixed place now (closed_stream s) image has.agree (within has.agree) held in
    rw (← closed_until-set place all s found.1) (record { agree = both.0; records = both.1 })) (closes others s)

-- before the first
pub Turns-open : {T E : Type 0} (parts now : List StreamParts) (all : List Stream) (old new : Told) (result : Result T E) → AllAgree parts all →
    Turns (AreHeldIn parts all) (Recovers (closed_state all)) (AreHeldIn now (closed_state all)) old new result →
    Turns (HasRecords (flat_map records_held (zip parts all))) (Recovers (closed_state all))
    (HasRecords (flat_map records_held (zip now (closed_state all)))) old new result
Turns-open parts now all old new result agree turns =
    Turns-weaker (AreHeldIn parts all) (HasRecords (flat_map records_held (zip parts all))) (Recovers (closed_state all)) (Recovers (closed_state all))
    (AreHeldIn now (closed_state all)) (HasRecords (flat_map records_held (zip now (closed_state all)))) old new result
    (λ has. record { agree = agree; records = has }) (λ has image is. is) (λ has image held. held.records) turns

-- what the closing of the first streams makes of all
abbrev pub ClosesFirst : List StreamParts → List StreamParts → ℕ → Told → Told → Type 0
ClosesFirst was now place before after =
    (all : List Stream) → IsState all → length was ≡ length all →
    Turns {T = Unit {0}} {E = ReadError} (AreHeldIn was all) (Recovers (closed_state all)) (AreHeldIn now (closed_until place all)) before after (Ok tt)

pub ClosesFirst-none : (was : List StreamParts) (disk : Told) → KnowsNow disk → ClosesFirst was was 0 disk disk
ClosesFirst-none was disk knows all state long =
    Turns-same (AreHeldIn was all) (Recovers (closed_state all)) disk (Ok tt) knows
    (λ has. Recovers-held was all disk.content has.agree state has.records)

pub ClosesFirst-more : (was now : List StreamParts) (part new : StreamParts) (place : ℕ) (before mid after : Told) (result : Result (Unit {0}) ReadError) →
    slice_get now place ≡ Some part → place < length was → ClosesFirst was now place before mid → ClosesOne part new mid after result →
    (all : List Stream) → IsState all → length was ≡ length all →
    Turns (AreHeldIn was all) (Recovers (closed_state all)) (AreHeldIn (slice_set now place new) (closed_until (suc place) all)) before after result
ClosesFirst-more was now part new place before mid after result at inside first one all state long =
    Turns-joined (AreHeldIn was all) (Recovers (closed_state all)) (AreHeldIn now (closed_until place all))
    (AreHeldIn (slice_set now place new) (closed_until (suc place) all)) before mid after tt result
    (first all state long) (Turns-closed_one now part new all place mid after result at (omega arith) state one)

-- closing finds no record changed
pub firm-ClosesFirst : (was now : List StreamParts) (part : StreamParts) (place : ℕ) (before mid : Told) (v : Verdict) →
    slice_get now place ≡ Some part → place < length was → ClosesFirst was now place before mid →
    ((others : List (ℕ × Option Record)) (s : Stream) → IsHeldIn others part s mid.content → IsFirm v) →
    (all : List Stream) → IsState all → AllAgree was all → HasRecords (flat_map records_held (zip was all)) before.content → IsFirm v
firm-ClosesFirst was now part place before mid v at inside first firm all state agree has =
    let long = length-AllAgree was all agree in
    let mixed = closed_until place all in
    let found = slice_get-within all place (omega arith) in
    let held : AreHeldIn now mixed mid.content = (first all state long).content (record { agree = agree; records = has }) in
    firm (others_of place now mixed) found.0
    (IsHeldIn-at now mixed place part found.0 mid.content held.agree (IsState-until place all state) at (closed_until-at place all ∙ found.1) held.records)

-- all were closed
pub Turns-all : (was now : List StreamParts) (place : ℕ) (before after : Told) → ClosesFirst was now place before after → place ≡ length was →
    (all : List Stream) → IsState all → AllAgree was all →
    Turns {T = Unit {0}} {E = ReadError} (AreHeldIn was all) (Recovers (closed_state all)) (AreHeldIn now (closed_state all)) before after (Ok tt)
Turns-all was now place before after closes end all state agree =
    let long = length-AllAgree was all agree in
    rw (closed_until-all place all (omega arith)) at (closes all state long)

-- what one of the streams holds, some of them holds
Contains-set : (parts : List StreamParts) (place : ℕ) (was now : StreamParts) (slot : ℕ) → slice_get parts place ≡ Some was →
    Contains (window_slots_of now) slot → Contains (flat_map window_slots_of (slice_set parts place now)) slot
Contains-set [] place was now slot at has = absurd (none-some was at)
Contains-set (p ∷ ps) zero was now slot at has = Contains-append_left (window_slots_of now) (flat_map window_slots_of ps) slot has
Contains-set (p ∷ ps) (suc place) was now slot at has =
    Contains-append_right (window_slots_of p) (flat_map window_slots_of (slice_set ps place now)) slot (Contains-set ps place was now slot at has)

pub SomeChangedIsHeld-set : (parts : List StreamParts) (place : ℕ) (was now : StreamParts) (failure : ReadError) → slice_get parts place ≡ Some was →
    ChangedIsHeld (verdict_of_read {T = Unit {0}} (Err failure)) now →
    SomeChangedIsHeld (verdict_of_read {T = Unit {0}} (Err failure)) (slice_set parts place now)
SomeChangedIsHeld-set parts place was now fault.Disk at has = tt
SomeChangedIsHeld-set parts place was now (fault.Changed slot) at has = Contains-set parts place was now slot at has
