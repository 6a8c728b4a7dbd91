-- The entries: the puts of each, and how it is spelled.
use Rattle.std.specs.Prelude.{ℕ, ◌+◌, ◌-◌, ◌*◌, Bool, ◌&&◌, ◌==◌, nat_le, if◌then◌else◌, List, [], ◌∷◌, ◌++◌, length, take, drop, replicate, slice_index, map}
use Rattle.std.specs.Prelude.{flat_map}
use Rattle.std.specs.List.{list_all, range_with_len}
use Rattle.ss_fields.specs.Fields.{number_at, number_bytes}
use Rattle.ss_journal.specs.declared.put.Put.{Put}
use Rattle.ss_journal.specs.declared.format.TheConstants.{ENTRIES, ENTRY_SIZE, MOST_PUTS, PUT_SIZE}
use Rattle.ss_base.specs.declared.limits.TheConstants.{SLOT_SIZE}
use Rattle.ss_journal.specs.Gates.{is_open}
use Rattle.ss_journal.specs.Checks.{entry_in}
use Rattle.ss_journal.specs.Puts.{slots_rise_from, slots_fit}

-- how many puts an entry holds
abbrev pub put_count : List ℕ → ℕ
put_count entry = slice_index entry 1

-- its put number k
abbrev pub put_at : List ℕ → ℕ → Put
put_at entry k = record { slot = number_at 4 entry (2 + PUT_SIZE * k); bytes = take SLOT_SIZE (drop (6 + PUT_SIZE * k) entry) }

-- its puts, in order
unfoldable pub puts_of : List ℕ → List Put
puts_of entry = map (put_at entry) (range_with_len 0 (put_count entry))

-- whether an entry is sound over this extent
unfoldable pub is_good : List ℕ → ℕ → Bool
is_good entry extent =
    nat_le 1 (put_count entry) && nat_le (put_count entry) MOST_PUTS
    && slots_rise_from 0 (puts_of entry) && slots_fit (puts_of entry) extent
    && list_all (λ byte. byte == 0) (drop (2 + PUT_SIZE * put_count entry) entry)

-- the longest prefix of open entries
abbrev pub open_prefix : List (List ℕ) → List (List ℕ)
open_prefix [] = []
open_prefix (entry ∷ entries) = if is_open entry then entry ∷ open_prefix entries else []

-- what the entries of a file say
unfoldable pub entries : List ℕ → List (List ℕ)
entries image = map (entry_in image) (range_with_len 0 ENTRIES)

-- a put in an entry: the number of its slot, then the bytes
abbrev pub put_bytes : Put → List ℕ
put_bytes put = number_bytes 4 put.slot ++ put.bytes

-- an entry of these puts after its gate: their number, the puts, and zeros
unfoldable pub entry_body : List Put → List ℕ
entry_body puts = length puts ∷ flat_map put_bytes puts ++ replicate (ENTRY_SIZE - 2 - PUT_SIZE * length puts) 0
