-- Names with their numbers, in order of creation.
use Rattle.std.specs.Prelude.{ℕ, ◌≤◌, not, List, length, map, filter, Option}
use Rattle.std.specs.List.{IsDistinct}
use Rattle.std.specs.Map.{lookup}
use Rattle.ss_catalog.specs.Names.{same_name}
use Rattle.ss_catalog.specs.declared.TheConstants.{MOST_STREAMS}
use Rattle.ss_catalog.specs.declared.stream_id.StreamId.{StreamId}

-- the number of a name, where it is there
abbrev pub id_of : List ℕ → List (List ℕ × StreamId) → Option StreamId
id_of name names = lookup (same_name name) names

-- the names without one, in their order
abbrev pub without_name : List ℕ → List (List ℕ × StreamId) → List (List ℕ × StreamId)
without_name name names = filter (λ e. not (same_name name e.0)) names

-- no name is there twice
abbrev pub HasDistinctNames : List (List ℕ × StreamId) → Type 0
HasDistinctNames names = IsDistinct same_name (map (λ e. e.0) names)

-- names as a catalog has them
pub record IsCatalog (names : List (List ℕ × StreamId)) : Type 0 where
  pub distinct : HasDistinctNames names
  pub most : length names ≤ MOST_STREAMS
