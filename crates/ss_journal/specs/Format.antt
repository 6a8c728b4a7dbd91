-- The file: its places, and whether it is formatted.
use Rattle.std.specs.Prelude.{if◌then◌else◌, ℕ, ◌+◌, ◌-◌, ◌*◌, ◌/◌, min, Bool, not, ◌&&◌, ◌||◌, ◌==◌, nat_eq, nat_le, List, [], ◌∷◌, length, take}
use Rattle.std.specs.Prelude.{drop, slice_index, IsTrue}
use Rattle.std.specs.List.{starts_with}
use Rattle.ss_journal.specs.declared.format.TheConstants.{ENTRY_SIZE, FIRST_SLOT, MOST_SLOTS}
use Rattle.ss_base.specs.declared.limits.TheConstants.{SLOT_SIZE}
use Rattle.ss_journal.specs.declared.kind.Kind.{Kind}
use Rattle.ss_journal.specs.declared.kind.Kind.TheVariants.{Plain, Checked}
use Rattle.ss_journal.specs.Gates.{opens, entry_place, IsClosed}

-- SSTORE01, and SSTORE02 in a checked store
abbrev pub magic : Kind → List ℕ
magic Plain = 83 ∷ 83 ∷ 84 ∷ 79 ∷ 82 ∷ 69 ∷ 48 ∷ 49 ∷ []
magic Checked = 83 ∷ 83 ∷ 84 ∷ 79 ∷ 82 ∷ 69 ∷ 48 ∷ 50 ∷ []

-- whether the magic of a kind stands after the birth gate
abbrev pub has_magic_of : Kind → List ℕ → Bool
has_magic_of kind image = starts_with nat_eq (drop 1 image) (magic kind)

-- whether that of any kind does
abbrev pub has_magic : List ℕ → Bool
has_magic image = has_magic_of Plain image || has_magic_of Checked image

-- the kind of a file, formatted or not: it is checked where that magic stands
unfoldable pub kind_of : List ℕ → Kind
kind_of image = if has_magic_of Checked image then Checked else Plain

-- whether the file isn't formatted: it is empty, or one byte, or begins with 0, or the birth gate is closed before the magic
unfoldable pub is_unborn : List ℕ → Bool
is_unborn image =
    nat_le (length image) 1 || slice_index image 0 == 0 || (has_magic image && not (opens (slice_index image 0)))

-- whether the file is formatted
unfoldable pub is_born : List ℕ → Bool
is_born image = nat_le FIRST_SLOT (length image) && opens (slice_index image 0) && has_magic image

-- whether a plain store stands there: a file that is formatted, or that came so far that its magic stays
abbrev pub is_plain : List ℕ → Bool
is_plain image = (is_born image || is_unborn image) && not (slice_index image 0 == 0) && has_magic_of Plain image

-- a formatted file with the first gate closed: none of its entries is in use
abbrev pub IsShut : List ℕ → Type 0
IsShut content = IsTrue (is_born content) × IsClosed 0 content

-- where a slot begins
abbrev pub slot_place : ℕ → ℕ
slot_place slot = FIRST_SLOT + SLOT_SIZE * slot

-- how many whole slots lie in a file of this length
abbrev pub slots_in : ℕ → ℕ
slots_in size = min ((size - FIRST_SLOT) / SLOT_SIZE) MOST_SLOTS

-- the bytes of a slot that lies in the file
abbrev pub slot_at : List ℕ → ℕ → List ℕ
slot_at image slot = take SLOT_SIZE (drop (slot_place slot) image)

-- the bytes of an entry
abbrev pub entry_bytes : List ℕ → ℕ → List ℕ
entry_bytes image n = take ENTRY_SIZE (drop (entry_place n) image)
