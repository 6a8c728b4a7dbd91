-- The parameters and the lengths of a power-law target.
use Rattle.std.specs.Prelude.{ℕ}
use Rattle.ss_targets.specs.Power.{power_length}
use Rattle.ss_targets.specs.declared.power.Power.{Power}

-- P, Q, R and S
abbrev pub power_parameters : Power → ℕ × ℕ × ℕ × ℕ
power_parameters target = (target.power, target.widening, target.repeat, target.scale)

-- the lengths of its windows
abbrev pub power_lengths : Power → ℕ → ℕ
power_lengths target = power_length target.power target.widening target.repeat target.scale
