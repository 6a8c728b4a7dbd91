-- The exponential family: group g = 0, 1, 2, .. has r windows of length s * b ^ g.
use Rattle.std.specs.Prelude.{ℕ, ◌*◌, ◌/◌, ◌^◌, ◌≤◌}
use Rattle.ss_targets.specs.declared.exp.TheConstants.{LEAST_BASE, GREATEST_BASE, MOST_REPEAT, GREATEST_SCALE}

-- the length of window i, which is in group i / r
abbrev pub exp_length : ℕ → ℕ → ℕ → ℕ → ℕ
exp_length b r s i = s * b ^ (i / r)

-- the parameters that a target may have
pub record IsExp (b r s : ℕ) : Type 0 where
  pub base_low : LEAST_BASE ≤ b
  pub base_high : b ≤ GREATEST_BASE
  pub repeat_low : 1 ≤ r
  pub repeat_high : r ≤ MOST_REPEAT
  pub scale_low : 1 ≤ s
  pub scale_high : s ≤ GREATEST_SCALE
