-- The records in the slots of an image.
use Rattle.std.specs.Prelude.{ℕ, Bool, nat_lt, if◌then◌else◌, List, [], ◌∷◌, ◌++◌, length, filter, Option, Some, Result}
use Rattle.std.specs.List.{range_with_len}
use Rattle.std.specs.List.Sorted.{IsPermutation}
use Rattle.ss_outside.specs.Disk.{Told}
use Rattle.ss_journal.specs.Redo.{zeros, SlotMap, StandsFor, changed}
use Rattle.ss_journal.specs.declared.put.Put.{Put}
use Rattle.ss_records.specs.Kept.{RecordsState}
use Rattle.ss_records.specs.Live.{is_live}
use Rattle.ss_codec.specs.Record.{spelling}
use Rattle.ss_codec.specs.declared.record.Record.{Record}
use Rattle.ss_parts.specs.Slots.{HasRecords}
use Rattle.ss_stream.specs.Calls.{TurnsShown}

-- a call stages a record for a free slot
abbrev pub StagesRecord : {T E : Type 0} → ℕ → Record → RecordsState → RecordsState → Result T E → Told → Told → Type 0
StagesRecord slot r was is result old new =
    (others : List (ℕ × Option Record)) → TurnsShown was is (HasRecords others) (HasRecords others) (HasRecords ((slot, Some r) ∷ others)) old new result

-- a call stages a record in place of that of a slot
abbrev pub StagesReplaced : {T E : Type 0} → ℕ → Record → RecordsState → RecordsState → Result T E → Told → Told → Type 0
StagesReplaced slot r was is result old new =
    (first : Option Record) (others : List (ℕ × Option Record)) →
    let before = HasRecords ((slot, first) ∷ others) in
    TurnsShown was is before before (HasRecords ((slot, Some r) ∷ others)) old new result

-- a call stages a record in place of that of one slot, and the freeing of another
abbrev pub StagesTwo : {T E : Type 0} → ℕ → ℕ → Record → RecordsState → RecordsState → Result T E → Told → Told → Type 0
StagesTwo kept freed r was is result old new =
    (first gone : Option Record) (others : List (ℕ × Option Record)) →
    let before = HasRecords ((kept, first) ∷ (freed, gone) ∷ others) in
    TurnsShown was is before before (HasRecords ((kept, Some r) ∷ others)) old new result

-- a put of a record, and one of zeros
abbrev pub record_put : ℕ → Record → Put
record_put slot r = record { slot = slot; bytes = spelling r }

abbrev pub zeros_put : ℕ → Put
zeros_put slot = record { slot = slot; bytes = zeros }

-- a record for one slot and zeros for another, in the order of the slots
abbrev pub pair_put : ℕ → ℕ → Record → List Put
pair_put kept freed r = if nat_lt kept freed then record_put kept r ∷ zeros_put freed ∷ [] else zeros_put freed ∷ record_put kept r ∷ []

-- the slots that are live, in order
abbrev pub live_slots : List Bool → List ℕ
live_slots live = filter (is_live live) (range_with_len 0 (length live))

-- these slots are live, each once
abbrev pub AreSomeLive : List ℕ → List Bool → Type 0
AreSomeLive slots live = (others : List ℕ) × IsPermutation (slots ++ others) (live_slots live)

-- slots that were some of those that are live became these, and the others stay
abbrev pub LiveSlotsGo : List ℕ → List ℕ → List Bool → List Bool → Type 0
LiveSlotsGo slots now live live_now =
    (others : List ℕ) → IsPermutation (slots ++ others) (live_slots live) → IsPermutation (now ++ others) (live_slots live_now)

-- a call stages some puts, which change the map that is shown
abbrev pub StagesChange : {T E : Type 0} → List Put → RecordsState → RecordsState → Result T E → Told → Told → Type 0
StagesChange puts was is result old new =
    (found : SlotMap) →
    TurnsShown was is (λ image. StandsFor image found) (λ image. StandsFor image found) (λ image. StandsFor image (changed found puts)) old new result
