-- A line: entries in order, each at a place of its own.
use Rattle.std.specs.Prelude.{ℕ, zero, suc, ◌+◌, ◌<◌, ◌≤◌, Bool, nat_eq, List, length, count_by, slice_get, find, All, Option, None}
use Rattle.std.specs.List.{position_or_len}
use Rattle.std.specs.Option.{option_map}
use Rattle.ss_line.specs.declared.entry.At.{At}
use Rattle.ss_line.specs.declared.entry.Entry.{Entry}
use Rattle.ss_line.specs.declared.line.TheConstants.{MOST_PLACES}

-- a line: its entries in order, each with its place, and how many more fit
pub record LineState : Type 0 where
  pub entries : List (At × Entry)
  pub spare : ℕ

-- whether an entry stands at this place
abbrev pub is_at : At → At × Entry → Bool
is_at at entry = nat_eq entry.0.0 at.0

-- where in the line the place stands, counted from 0; the length of the line if it doesn't
abbrev pub index_of : List (At × Entry) → At → ℕ
index_of entries at = position_or_len (is_at at) entries

-- the place stands in the line
abbrev pub StandsIn : List (At × Entry) → At → Type 0
StandsIn entries at = index_of entries at < length entries

-- the entry at this place
abbrev pub entry_at : List (At × Entry) → At → Option Entry
entry_at entries at = option_map (λ entry. entry.1) (find (is_at at) entries)

-- the place with this index; none past the end
abbrev pub place_at : List (At × Entry) → ℕ → Option At
place_at entries index = option_map (λ entry. entry.0) (slice_get entries index)

-- the place before this index; none at the front
abbrev pub place_before : List (At × Entry) → ℕ → Option At
place_before entries zero = None
place_before entries (suc index) = place_at entries index

-- What is true of each line.
pub record IsLine (line : LineState) : Type 0 where
  pub most : length line.entries + line.spare ≤ MOST_PLACES
  -- each place is below the length and the spare together
  pub below : All (λ entry. entry.0.0 < length line.entries + line.spare) line.entries
  -- no two entries stand at one place
  pub apart : (at : At) → count_by (is_at at) line.entries ≤ 1
