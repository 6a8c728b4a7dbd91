-- How a line is held: its entries linked in order, and the free places linked in the order in which they are given.
use Rattle.std.specs.Prelude.{◌≡◌, ℕ, zero, suc, ◌+◌, ◌≤◌, nat_lt, nat_eq, if◌then◌else◌, List, [], ◌∷◌, length}
use Rattle.std.specs.Prelude.{count_by, slice_get, vec_capacity}
use Rattle.std.specs.Prelude.{Option, Some, None}
use Rattle.ss_line.specs.declared.entry.At.{At}
use Rattle.ss_line.specs.declared.entry.Entry.{Entry}
use Rattle.ss_line.specs.declared.chain.Node.{Node}
use Rattle.ss_line.specs.declared.chain.Chain.{Chain}
use Rattle.ss_line.specs.declared.line.TheConstants.{MOST_PLACES}
use Rattle.ss_line.specs.Line.{LineState, is_at, place_at, place_before}
use Rattle.ss_line.specs.Chain.{node_entry, behind_in, before_in}

-- the entries that are met from a place on, at most so many
abbrev pub entries_from : List Node → ℕ → Option At → List (At × Entry)
entries_from nodes zero at = []
entries_from nodes (suc n) None = []
entries_from nodes (suc n) (Some at) = elim (slice_get nodes at.0) [
  | None ↦ []
  | Some node ↦ (at, node.entry) ∷ entries_from nodes n node.behind
]

-- the line that is held
abbrev pub line_of : Chain → ℕ → ℕ → LineState
line_of chain len spare = record { entries = entries_from chain.nodes.items len chain.first; spare = spare }

-- The nodes hold the line. Each entry is linked with its neighbours, both ways, and so are the ends of the line.
pub record IsHeld (line : LineState) (chain : Chain) (len : ℕ) : Type 0 where
  -- the free places, in the order in which they are given
  pub frees : List At
  -- none of its entries is missing
  pub whole : length line.entries ≡ len
  -- each place in the line keeps its entry
  pub kept : (k : ℕ) (entry : At × Entry) → slice_get line.entries k ≡ Some entry → node_entry chain entry.0 ≡ Some entry.1
  -- behind each place is that of the next entry, and the line begins with that of the first
  pub behind : (k : ℕ) → k ≤ length line.entries → behind_in chain (place_before line.entries k) ≡ place_at line.entries k
  -- before each place is that of the entry before, and the line ends with that of the last
  pub before : (k : ℕ) → k ≤ length line.entries → before_in chain (place_at line.entries k) ≡ place_before line.entries k
  -- behind each free place is the free one that is given after it
  pub freed : (k : ℕ) (at : At) → slice_get frees k ≡ Some at → behind_in chain (Some at) ≡ slice_get frees (suc k)
  -- the first of these is given next
  pub free : chain.free ≡ slice_get frees 0
  -- each node is that of one entry or of one free place
  pub once : (at : At) →
      count_by (is_at at) line.entries + count_by (λ free. nat_eq free.0 at.0) frees ≡ (if nat_lt at.0 (length chain.nodes.items) then 1 else 0)
  -- and there are no further nodes
  pub as_many : length line.entries + length frees ≡ length chain.nodes.items
  -- the places that were never given are to spare
  pub used : length chain.nodes.items ≤ length line.entries + line.spare
  -- a node for each place needs no further memory
  pub room : length line.entries + line.spare ≤ vec_capacity chain.nodes
  -- the limit of `MOST_PLACES` is kept
  pub most : length line.entries + line.spare ≤ MOST_PLACES
