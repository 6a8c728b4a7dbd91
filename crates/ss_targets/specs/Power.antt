-- The power-law family: group g = 1, 2, 3, .. has r * g ^ (p - 1) windows of length s * g ^ q.
-- Here groups count from 0, as windows do, so group g of a definition is group g + 1 of that sentence.
use Rattle.std.specs.Prelude.{ℕ, ◌+◌, ◌-◌, ◌*◌, ◌^◌, ◌≤◌}
use Rattle.ss_targets.specs.Groups.{grouped}
use Rattle.ss_targets.specs.declared.exp.TheConstants.{MOST_REPEAT, GREATEST_SCALE}
use Rattle.ss_targets.specs.declared.power.TheConstants.{LEAST_POWER, GREATEST_POWER, GREATEST_WIDENING}

-- how many windows a group has
abbrev pub group_size : ℕ → ℕ → ℕ → ℕ
group_size p r g = r * (g + 1) ^ (p - 1)

-- the length of each of them
abbrev pub group_length : ℕ → ℕ → ℕ → ℕ
group_length q s g = s * (g + 1) ^ q

-- the length of window i
unfoldable pub power_length : ℕ → ℕ → ℕ → ℕ → ℕ → ℕ
power_length p q r s i = grouped (group_size p r) (group_length q s) i

-- the parameters that a target may have
pub record IsPower (p q r s : ℕ) : Type 0 where
  pub power_low : LEAST_POWER ≤ p
  pub power_high : p ≤ GREATEST_POWER
  pub widening_high : q ≤ GREATEST_WIDENING
  pub repeat_low : 1 ≤ r
  pub repeat_high : r ≤ MOST_REPEAT
  pub scale_low : 1 ≤ s
  pub scale_high : s ≤ GREATEST_SCALE
