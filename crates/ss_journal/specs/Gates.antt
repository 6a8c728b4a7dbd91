-- The gates: of the file, and of its entries, each the entry's first byte.
use Rattle.std.specs.Prelude.{ℕ, ◌+◌, ◌*◌, ◌<◌, Bool, ◌==◌, List, slice_index, IsFalse}
use Rattle.ss_journal.specs.declared.format.TheConstants.{GATE_OPEN, ENTRIES, FIRST_ENTRY, ENTRY_SIZE}

-- whether a gate with this byte is open
abbrev pub opens : ℕ → Bool
opens byte = byte == GATE_OPEN

-- whether the gate of an entry with these bytes is open
abbrev pub is_open : List ℕ → Bool
is_open entry = opens (slice_index entry 0)

-- where entry n begins, with its gate
abbrev pub entry_place : ℕ → ℕ
entry_place n = FIRST_ENTRY + ENTRY_SIZE * n

-- the gate of entry n is closed
abbrev pub IsClosed : ℕ → List ℕ → Type 0
IsClosed n content = IsFalse (opens (slice_index content (entry_place n)))

-- no entry from number n on is in use: its gate is closed, or there is none
abbrev pub EndsAt : ℕ → List ℕ → Type 0
EndsAt n content = n < ENTRIES → IsClosed n content
