-- Windows in groups: the windows of one group have one length.
use Rattle.std.specs.Prelude.{ℕ}
use Rattle.ss_targets.specs.Windowing.{window_index}

-- the length of window i, where group g has `sizes g` windows of length `group_length g`. Groups lie over the indices of
-- windows as windows lie over ages.
abbrev pub grouped : (ℕ → ℕ) → (ℕ → ℕ) → ℕ → ℕ
grouped sizes group_length i = group_length (window_index sizes i)
