-- Pairs of neighbours in a line.
use Rattle.std.specs.Prelude.{◌≡◌, ℕ, ◌≤◌, Bool, false, if◌then◌else◌, List, [], ◌∷◌, ◌++◌, Option, Some, None, ⊤}
use Rattle.std.specs.List.{list_any}
use Rattle.ss_line.specs.Line.{is_at}
use Rattle.ss_line.specs.declared.entry.At.{At}
use Rattle.ss_line.specs.declared.entry.Entry.{Entry}
use Rattle.ss_targets.specs.Rule.{Rule, may_be_one}
use Rattle.ss_schedule.specs.declared.pair.Pair.{Pair}

-- two neighbours: their places, the positions that they have together, and the times of the first and the last
abbrev pub pair_of : At × Entry → At × Entry → Pair
pair_of left right = record { left = left.0; right = right.0; first = left.1.first; last = right.1.last; t_first = left.1.t_first; t_last = right.1.t_last }

-- the pair of neighbours whose right one stands at this place, among entries behind this one; none if none of them stands there
abbrev pub pair_among : At × Entry → List (At × Entry) → At → Option Pair
pair_among left [] at = None
pair_among left (right ∷ entries) at = if is_at at right then Some (pair_of left right) else pair_among right entries at

-- the same in a whole line: none for the first place
abbrev pub pair_at : List (At × Entry) → At → Option Pair
pair_at [] at = None
pair_at (entry ∷ entries) at = pair_among entry entries at

-- the positions of a pair, of which n are taken
pub record IsSpan (n : ℕ) (pair : Pair) : Type 0 where
  pub begins : 1 ≤ pair.first
  pub order : pair.first ≤ pair.last
  pub taken : pair.last ≤ n

-- whether a pair may be one window at n
abbrev pub pair_may_join : Rule → ℕ → Pair → Bool
pair_may_join rule n pair = may_be_one rule pair.first pair.last n pair.t_first pair.t_last

-- of two neighbours none may be one window at n
abbrev pub NoPairFits : Rule → ℕ → List (At × Entry) → Type 0
NoPairFits rule n [] = ⊤
NoPairFits rule n (entry ∷ []) = ⊤
NoPairFits rule n (left ∷ right ∷ entries) = (pair_may_join rule n (pair_of left right) ≡ false) × NoPairFits rule n (right ∷ entries)

-- two entries stand side by side in a line, and no entry before them has a place of theirs
pub record AreSideBySide (entries : List (At × Entry)) (left right : At) : Type 0 where
  pub before : List (At × Entry)
  pub window : Entry
  pub next : Entry
  pub rest : List (At × Entry)
  pub is : entries ≡ before ++ (left, window) ∷ (right, next) ∷ rest
  pub left_once : list_any (is_at left) before ≡ false
  pub right_once : list_any (is_at right) (before ++ (left, window) ∷ []) ≡ false

-- two neighbours in a line, with the positions that they have together
pub record IsPairIn (entries : List (At × Entry)) (pair : Pair) : Type 0 where
  pub neighbours : AreSideBySide entries pair.left pair.right
  pub first : pair.first ≡ neighbours.window.first
  pub last : pair.last ≡ neighbours.next.last
  pub t_first : pair.t_first ≡ neighbours.window.t_first
  pub t_last : pair.t_last ≡ neighbours.next.t_last

-- two entries as one, in the slot of the first
abbrev pub joined_entry : Entry → Entry → Entry
joined_entry window next = record {
  first = window.first;
  last = next.last;
  t_first = window.t_first;
  t_last = next.t_last;
  slot = window.slot;
}
