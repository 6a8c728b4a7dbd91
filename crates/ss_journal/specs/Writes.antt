-- What the journal's writes make of a content, and what a crash may make of it before they are synced.
use Rattle.std.specs.Prelude.{◌≡◌, ℕ, ◌+◌, ◌<◌, ◌≤◌, max, nat_eq, if◌then◌else◌, List, [], ◌∷◌, length, slice_index, EachIndex, All, IsTrue, map, flat_map}
use Rattle.ss_outside.specs.Crash.{LeavesOnly}
use Rattle.ss_outside.specs.Disk.{Told, overwrite, IsOutsideAll}
use Rattle.ss_journal.specs.declared.put.Put.{Put}
use Rattle.ss_journal.specs.declared.format.TheConstants.{FIRST_SLOT, MOST_SLOTS, FILE_END}
use Rattle.ss_base.specs.declared.limits.TheConstants.{SLOT_SIZE}
use Rattle.ss_journal.specs.declared.kind.Kind.{Kind}
use Rattle.ss_journal.specs.Checks.{slot_form}
use Rattle.ss_journal.specs.Format.{slot_place, slots_in}
use Rattle.ss_journal.specs.Puts.{slots_fit}

-- the greatest length with these ranges written
abbrev pub length_with : List (ℕ × ℕ) → ℕ → ℕ
length_with [] size = size
length_with (range ∷ ranges) size = max (length_with ranges size) (range.0 + range.1)

-- The writes to these ranges were lost, torn or whole: each other place is as it was, and it grew at most to their end.
pub record DiffersIn (ranges : List (ℕ × ℕ)) (old new : List ℕ) : Type 0 where
  pub no_shorter : length old ≤ length new
  pub no_longer : length new ≤ length_with ranges (length old)
  pub kept : EachIndex old (λ place. IsOutsideAll ranges place → slice_index new place ≡ slice_index old place)

-- the same of one range
abbrev pub DiffersAt : ℕ → ℕ → List ℕ → List ℕ → Type 0
DiffersAt at count = DiffersIn ((at, count) ∷ [])

-- one of a disk's images, with the writes to these ranges lost, torn or whole
pub record IsTorn (ranges : List (ℕ × ℕ)) (disk : Told) (image : List ℕ) : Type 0 where
  pub was : List ℕ
  pub left : disk.may_leave was
  pub differs : DiffersIn ranges was image

-- A run of writes to these ranges: a crash at any moment of it leaves an image from before, torn there.
abbrev pub Tears : List (ℕ × ℕ) → Told → Told → Type 0
Tears ranges old new = LeavesOnly old new (IsTorn ranges old)

-- the place of each put's slot
abbrev pub slot_ranges : List Put → List (ℕ × ℕ)
slot_ranges puts = map (λ put. (slot_place put.slot, SLOT_SIZE)) puts

-- the content with each put's bytes in its slot, in the form of a kind, written in order
abbrev pub slots_written : Kind → List Put → List ℕ → List ℕ
slots_written kind [] content = content
slots_written kind (put ∷ puts) content =
    slots_written kind puts (overwrite content (slot_place put.slot) (slot_form kind put.slot put.bytes))

-- how many puts at the front are for neighbouring slots, from `slot` on
abbrev pub run_length : ℕ → List Put → ℕ
run_length slot [] = 0
run_length slot (put ∷ puts) = if nat_eq put.slot slot then run_length (slot + 1) puts + 1 else 0

-- the puts' bytes one after the other, each in the form of a kind
abbrev pub run_bytes : Kind → List Put → List ℕ
run_bytes kind puts = flat_map (λ put. slot_form kind put.slot put.bytes) puts

-- the slots that a file can have
abbrev pub AreSlots : List Put → Type 0
AreSlots puts = All (λ put. put.slot < MOST_SLOTS) puts

-- a formatted file, into which these puts may be written in order
pub record HasSlotsFor (puts : List Put) (content : List ℕ) : Type 0 where
  pub long : FIRST_SLOT ≤ length content
  pub fit : IsTrue (slots_fit puts (slots_in (length content)))

-- each byte after the last slot that a file can have is as before
abbrev pub SameRest : List ℕ → List ℕ → Type 0
SameRest old new = (place : ℕ) → FILE_END ≤ place → slice_index new place ≡ slice_index old place
