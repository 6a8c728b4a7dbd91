-- Worked rows: a line of three, at the places 2, 0 and 1, and the nodes that hold it, of which that of place 3 is free.
use Rattle.std.proofs.Common.{◌≡◌, ℕ, ◌+◌, ◌*◌, ◌^◌, ◌<◌, ◌≤◌, List, [], ◌∷◌, length, remove, Option, Some, None, slice_get, ap, refl}
use Rattle.std.specs.Prelude.{All, count_by}
use Rattle.std.specs.Option.{option_and_then}
use Rattle.ss_line.specs.declared.entry.At.{At}
use Rattle.ss_line.specs.declared.entry.Entry.{Entry}
use Rattle.ss_line.specs.declared.chain.Node.{Node}
use Rattle.ss_line.specs.declared.chain.Chain.{Chain}
use Rattle.ss_line.specs.declared.line.TheConstants.{MOST_PLACES}
use Rattle.ss_line.specs.Line.{IsLine, LineState, is_at, index_of, entry_at, place_at, place_before}
use Rattle.ss_line.specs.Chain.{node_entry, behind_in, before_in}
use Rattle.ss_line.specs.Held.{entries_from}

abbrev place : ℕ → At
place n = record { 0 = n }

abbrev window : ℕ → ℕ → Entry
window first last = record { first = first; last = last; t_first = 10 * first; t_last = 10 * last; slot = 9 }

abbrev line : List (At × Entry)
line = (place 2, window 1 4) ∷ (place 0, window 5 6) ∷ (place 1, window 7 7) ∷ []

pub index_of-second : index_of line (place 0) ≡ 1
index_of-second = refl

pub index_of-none : index_of line (place 3) ≡ 3
index_of-none = refl

pub entry_at-last : entry_at line (place 1) ≡ Some (window 7 7)
entry_at-last = refl

pub entry_at-none : entry_at line (place 3) ≡ None
entry_at-none = refl

pub place_before-front : place_before line 0 ≡ None
place_before-front = refl

pub place_before-second : place_before line 1 ≡ Some (place 2)
place_before-second = refl

pub place_at-end : place_at line 3 ≡ None
place_at-end = refl

-- the one in the middle is cut out
pub remove-second : remove line (index_of line (place 0)) ≡ (place 2, window 1 4) ∷ (place 1, window 7 7) ∷ []
remove-second = refl

abbrev node : Entry → Option At → Option At → Node
node entry before behind = record { entry = entry; before = before; behind = behind }

abbrev nodes : List Node
nodes = node (window 5 6) (Some (place 2)) (Some (place 1)) ∷ node (window 7 7) (Some (place 0)) None ∷
    node (window 1 4) None (Some (place 0)) ∷ node (window 8 8) None None ∷ []

pub entries_from-first : entries_from nodes 3 (Some (place 2)) ≡ line
entries_from-first = refl

pub entries_from-fewer : entries_from nodes 1 (Some (place 2)) ≡ (place 2, window 1 4) ∷ []
entries_from-fewer = refl

pub entries_from-end : entries_from nodes 9 (Some (place 1)) ≡ (place 1, window 7 7) ∷ []
entries_from-end = refl

module _ (chain : Chain) (are : chain.nodes.items ≡ nodes) where
  pub entry_in-second : node_entry chain (place 0) ≡ Some (window 5 6)
  entry_in-second = ap (λ (ns : List Node). option_and_then (λ (n : Node). Some n.entry) (slice_get ns 0)) are

  pub behind_in-first : behind_in chain (Some (place 2)) ≡ Some (place 0)
  behind_in-first = ap (λ (ns : List Node). option_and_then (λ (n : Node). n.behind) (slice_get ns 2)) are

  pub before_in-first : before_in chain (Some (place 2)) ≡ None
  before_in-first = ap (λ (ns : List Node). option_and_then (λ (n : Node). n.before) (slice_get ns 2)) are

  pub behind_in-front : chain.first ≡ Some (place 2) → behind_in chain None ≡ Some (place 2)
  behind_in-front first = first

  pub before_in-end : chain.last ≡ Some (place 1) → before_in chain None ≡ Some (place 1)
  before_in-end last = last

pub MOST_PLACES-is : MOST_PLACES ≡ 2 ^ 24
MOST_PLACES-is = refl

-- what is true of each line
module _ (held : LineState) (is : IsLine held) where
  IsLine-most : length held.entries + held.spare ≤ 2 ^ 24
  IsLine-most = is.most

  IsLine-below : All (λ (entry : At × Entry). entry.0.0 < length held.entries + held.spare) held.entries
  IsLine-below = is.below

  IsLine-apart : (at : At) → count_by (is_at at) held.entries ≤ 1
  IsLine-apart = is.apart
