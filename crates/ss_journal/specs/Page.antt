-- A page as it was read: what its slots say, each in the form that the file has or taken out of it.
use Rattle.std.specs.Prelude.{ℕ, ◌+◌, ◌*◌, if◌then◌else◌, Bool, false, List, slice_index_or, flat_map}
use Rattle.std.specs.List.{range_with_len}
use Rattle.ss_journal.specs.declared.format.TheConstants.{PAGE_SLOTS}
use Rattle.ss_journal.specs.declared.kind.Kind.{Kind}
use Rattle.ss_journal.specs.Calls.{slot_in_page}
use Rattle.ss_journal.specs.Checks.{slot_form}

-- what slot number k of a page says: its bytes, or what they say in the form of the file where they weren't taken out of it yet
abbrev pub slot_said : Kind → ℕ → List Bool → List ℕ → ℕ → List ℕ
slot_said kind number formed bytes k =
    if slice_index_or formed k false then slot_in_page bytes k else slot_form kind (PAGE_SLOTS * number + k) (slot_in_page bytes k)

-- what a page says, slot after slot
unfoldable pub page_said : Kind → ℕ → List Bool → List ℕ → List ℕ
page_said kind number formed bytes = flat_map (slot_said kind number formed bytes) (range_with_len 0 PAGE_SLOTS)
