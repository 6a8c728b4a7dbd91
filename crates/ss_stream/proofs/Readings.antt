-- Two records that are read one after the other.
use Rattle.ss_stream.proofs.Common.{◌≡◌, ℕ, ◌<◌, Bool, List, ◌∷◌, ◌++◌, length, ap₂, arith, Option, Err, range_with_len, All-filter}
use Rattle.ss_stream.proofs.Common.{All-from_recursion, All-head, All-permutation, IsPermutation-sym, shown, RecordsState, shown_by, is_live, Record, Figures}
use Rattle.ss_stream.proofs.Common.{range-within, IsPermutation-turn, IsRead, AreSomeLive, live_slots, HasRecords, ReadError, HasRecords-permutation}
use Rattle.std.proofs.Common.{All}
use Rattle.ss_parts.specs.declared.read_error.ReadError.TheVariants.{Disk, Changed}
use Rattle.ss_stream.proofs.LiveSlots.{AreSomeLive-permutation}

-- a failure says nothing of what was to be read
pub IsRead-err : (first second : Figures) (fault : ReadError) → IsRead first (Err fault) → IsRead second (Err fault)
IsRead-err first second Disk read = tt
IsRead-err first second (Changed slot) read = absurd read

-- a slot that is live is one of those that there are
pub live-below : (slot : ℕ) (slots : List ℕ) (live : List Bool) → AreSomeLive (slot ∷ slots) live → slot < length live
live-below slot slots live some =
    let all : All (λ s. s < length live) (live_slots live) =
    All-filter (is_live live) (λ s. s < length live) (range_with_len 0 (length live))
    (All-from_recursion (λ s. s < length live) (range_with_len 0 (length live)) (range-within 0 (length live) (length live) (omega arith))) in
    All-head (λ s. s < length live) slot (slots ++ some.0)
    (All-permutation (λ s. s < length live) (live_slots live) (slot ∷ slots ++ some.0)
    (IsPermutation-sym (slot ∷ slots ++ some.0) (live_slots live) some.1) all)

pub live-below_second : (first slot : ℕ) (slots : List ℕ) (live : List Bool) → AreSomeLive (first ∷ slot ∷ slots) live → slot < length live
live-below_second first slot slots live some =
    live-below slot (first ∷ slots) live (AreSomeLive-permutation (first ∷ slot ∷ slots) (slot ∷ first ∷ slots) live (IsPermutation-turn first slot slots) some)

-- what is shown stays while the journal and the content do
pub shown-same : (was is : RecordsState) (old new : List ℕ) → is.journal ≡ was.journal → new ≡ old → shown_by is new ≡ shown_by was old
shown-same was is old new journal content = ap₂ shown journal content

-- the second of two records, after a call that left the content
pub HasRecords-second : (first second : ℕ × Option Record) (others : List (ℕ × Option Record)) (old new : List ℕ) → new ≡ old →
    HasRecords (first ∷ second ∷ others) old → HasRecords (second ∷ first ∷ others) new
HasRecords-second first second others old new same has =
    rw same (HasRecords-permutation (first ∷ second ∷ others) (second ∷ first ∷ others) old (IsPermutation-turn first second others) has)
