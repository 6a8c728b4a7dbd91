-- Checked stores: the checksum in a record and in an entry. One step takes bytes to the form that the file has, and back.
use Rattle.std.specs.Prelude.{ℕ, ◌==◌, if◌then◌else◌, List, [], ◌∷◌, ◌++◌, take, drop, slice_index, bit_xor}
use Rattle.ss_checksum.specs.Checksum.{checksum}
use Rattle.ss_checksum.specs.Codeword.{check_bytes}
use Rattle.ss_fields.specs.Fields.{number_bytes}
use Rattle.ss_journal.specs.declared.checks.TheConstants.{ENTRY_CHECK, SLOT_CHECK}
use Rattle.ss_journal.specs.declared.kind.Kind.{Kind}
use Rattle.ss_journal.specs.declared.kind.Kind.TheVariants.{Plain, Checked}
use Rattle.ss_journal.specs.Format.{entry_bytes, kind_of, slot_at}

-- bytes, each with the byte of a mask at its place taken into it by an exclusive or
abbrev pub masked : List ℕ → List ℕ → List ℕ
masked bytes [] = bytes
masked [] (m ∷ mask) = []
masked (byte ∷ bytes) (m ∷ mask) = bit_xor byte m ∷ masked bytes mask

-- the same from a place on
abbrev pub masked_from : ℕ → List ℕ → List ℕ → List ℕ
masked_from place mask bytes = take place bytes ++ masked (drop place bytes) mask

-- the check of a number and bytes behind it
abbrev pub check_of : ℕ → List ℕ → List ℕ
check_of number bytes = check_bytes (checksum (number_bytes 4 number ++ bytes))

-- what a slot says in the form that the file has, and the other way round: in a checked store a record that is live has its check
-- taken into its last four bytes, which are zeros of themselves
unfoldable pub slot_form : Kind → ℕ → List ℕ → List ℕ
slot_form Plain slot bytes = bytes
slot_form Checked slot bytes =
    if slice_index bytes 0 == 0 then bytes else masked_from SLOT_CHECK (check_of slot (take SLOT_CHECK bytes)) bytes

-- the same of an entry, whose gate has no part in its check
unfoldable pub entry_form : Kind → ℕ → List ℕ → List ℕ
entry_form Plain n entry = entry
entry_form Checked n entry = masked_from ENTRY_CHECK (check_of n (drop 1 (take ENTRY_CHECK entry))) entry

-- what a slot of a file says
abbrev pub slot_in : List ℕ → ℕ → List ℕ
slot_in image slot = slot_form (kind_of image) slot (slot_at image slot)

-- what an entry of a file says
abbrev pub entry_in : List ℕ → ℕ → List ℕ
entry_in image n = entry_form (kind_of image) n (entry_bytes image n)
