-- How the keys are held: all places in a heap by when their pairs first fit, and where in the heap each place stands.
use Rattle.std.specs.Prelude.{◌≡◌, ◌≢◌, ℕ, ◌+◌, ◌*◌, ◌^◌, ◌<◌, ◌≤◌, List, length, Option, Some, None}
use Rattle.std.specs.List.{slice_index_or}
use Rattle.ss_line.specs.declared.entry.At.{At}
use Rattle.ss_schedule.specs.declared.sifting.TheConstants.{NEVER}

-- when the pair of a key first fits; past every count without a key
abbrev pub fit_of : Option (At × ℕ) → ℕ
fit_of None = NEVER
fit_of (Some key) = key.1

-- the same, for the place that stands at an index of the heap
abbrev pub fit_at : List (Option (At × ℕ)) → List ℕ → ℕ → ℕ
fit_at keys heap index = fit_of (slice_index_or keys (slice_index_or heap index 0) None)

-- one list of numbers says where each number below their length stands in the other, and each stands there once
pub record AreInverse (heap positions : List ℕ) : Type 0 where
  pub same : length positions ≡ length heap
  pub below : (index : ℕ) → index < length heap → slice_index_or heap index 0 < length heap
  pub placed : (index : ℕ) → index < length heap → slice_index_or positions (slice_index_or heap index 0) 0 ≡ index
  pub stands : (place : ℕ) → place < length heap → slice_index_or positions place 0 < length heap
  pub found : (place : ℕ) → place < length heap → slice_index_or heap (slice_index_or positions place 0) 0 ≡ place

-- the index is of one of the two children of a node of the heap
pub record IsChild (parent child : ℕ) : Type 0 where
  pub behind : 2 * parent < child
  pub near : child ≤ 2 * parent + 2

-- no child comes before its parent, but maybe at one index; and no child of the node there comes before that one's parent
pub record IsHeapBut (fit : ℕ → ℕ) (len hole : ℕ) : Type 0 where
  pub ordered : (parent child : ℕ) → IsChild parent child → child < len → parent ≢ hole → child ≢ hole → fit parent ≤ fit child
  pub around : (parent child : ℕ) → IsChild parent hole → IsChild hole child → child < len → fit parent ≤ fit child

-- the node at this index doesn't come before its parent
abbrev pub IsBelowParent : (ℕ → ℕ) → ℕ → Type 0
IsBelowParent fit index = (parent : ℕ) → IsChild parent index → fit parent ≤ fit index

-- no child comes before its parent
abbrev pub IsHeap : (ℕ → ℕ) → ℕ → Type 0
IsHeap fit len = (parent child : ℕ) → IsChild parent child → child < len → fit parent ≤ fit child

-- all places stand in a heap by their keys, and the position of each in it is known
pub record AreInHeap (keys : List (Option (At × ℕ))) (heap positions : List ℕ) : Type 0 where
  pub all : length heap ≡ length keys
  pub inverse : AreInverse heap positions
  pub order : IsHeap (fit_at keys heap) (length heap)

-- the same, but for the place at one index, whose key may have changed
pub record AreInHeapBut (keys : List (Option (At × ℕ))) (heap positions : List ℕ) (hole : ℕ) : Type 0 where
  pub few : length heap < 2 ^ 32
  pub all : length heap ≡ length keys
  pub inside : hole < length heap
  pub inverse : AreInverse heap positions
  pub order : IsHeapBut (fit_at keys heap) (length heap) hole

-- the keys by place, with the heap of all places and the position of each in it
pub record AreHeldKeys (keys : List (Option (At × ℕ))) (heap positions : List ℕ) : Type 0 where
  pub all : length heap ≡ length keys
  pub inverse : AreInverse heap positions
  pub order : IsHeap (fit_at keys heap) (length heap)
  pub early : (place : ℕ) → fit_of (slice_index_or keys place None) ≤ NEVER
