-- Target windows, counted back from the newest value, over any sequence of window lengths.
-- The newest value has age 0, and the value at position p has age n - p after n values.
use Rattle.std.specs.Prelude.{ℕ, zero, suc, ◌+◌, ◌-◌, ◌<◌, ◌≤◌, ◌==◌, Bool, nat_le, if◌then◌else◌}

-- the start of window i: the sum of the lengths before it
abbrev pub cut : (ℕ → ℕ) → ℕ → ℕ
cut len zero = 0
cut len (suc i) = cut len i + len i

-- window i holds the ages from its start on, as many as its length
pub record Holds (len : ℕ → ℕ) (i age : ℕ) : Type 0 where
  pub start : cut len i ≤ age
  pub end : age < cut len i + len i

-- how many of the first k windows end at or before an age
abbrev pub ended_windows : (ℕ → ℕ) → ℕ → ℕ → ℕ
ended_windows len age zero = 0
ended_windows len age (suc k) = ended_windows len age k + (if nat_le (cut len (suc k)) age then 1 else 0)

-- the index of the window that holds an age: how many windows end at or before it. No window is empty, so
-- they are among the first `age`.
unfoldable pub window_index : (ℕ → ℕ) → ℕ → ℕ
window_index len age = ended_windows len age age

-- every window has a length of at least 1
abbrev pub ArePositive : (ℕ → ℕ) → Type 0
ArePositive len = (i : ℕ) → 0 < len i

-- no window is shorter than the one before it
abbrev pub NeverFall : (ℕ → ℕ) → Type 0
NeverFall len = (i : ℕ) → len i ≤ len (i + 1)

-- the positions l to r lie in one target window when n values have been taken
abbrev pub Fits : (ℕ → ℕ) → ℕ → ℕ → ℕ → Type 0
Fits len l r n = (i : ℕ) × (cut len i ≤ n - r) × (n - l < cut len i + len i)

-- the test of it
abbrev pub fits : (ℕ → ℕ) → ℕ → ℕ → ℕ → Bool
fits len l r n = window_index len (n - l) == window_index len (n - r)
