-- When two neighbours become one.
use Rattle.std.specs.Prelude.{ℕ, zero, suc, ◌/◌, ◌==◌, ◌&&◌, Bool}
use Rattle.ss_catalog.specs.declared.params.Params.{Params}
use Rattle.ss_catalog.specs.Params.{step_number}
use Rattle.ss_targets.specs.Lengths.{lengths_of}
use Rattle.ss_targets.specs.Windowing.{fits}

-- the lengths of the target windows that neighbours lie in together, and the step of the clock that no window crosses: 0 for none
pub record Rule : Type 0 where
  pub lengths : ℕ → ℕ
  pub step : ℕ

-- the rule of target windows alone
abbrev pub without_step : (ℕ → ℕ) → Rule
without_step len = record { lengths = len; step = 0 }

-- the merge rule of a target
abbrev pub rule_of : Params → Rule
rule_of params = record { lengths = lengths_of params; step = step_number params.within }

-- which step a time lies in. Without a step all times lie in one.
abbrev pub step_of : ℕ → ℕ → ℕ
step_of zero t = 0
step_of (suc step) t = t / suc step

-- whether two times lie in one step
abbrev pub in_step : ℕ → ℕ → ℕ → Bool
in_step step t u = step_of step t == step_of step u

-- whether the values at positions l to r, the first at time t and the last at time u, may be one window when n have been taken
abbrev pub may_be_one : Rule → ℕ → ℕ → ℕ → ℕ → ℕ → Bool
may_be_one rule l r n t u = in_step rule.step t u && fits rule.lengths l r n
