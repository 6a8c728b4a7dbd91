-- The parameters and the lengths of a value of each family.
use Rattle.std.specs.Prelude.{ℕ}
use Rattle.ss_targets.specs.Exp.{exp_length}
use Rattle.ss_targets.specs.declared.exp.Exp.{Exp}

-- the base, the number of windows a group and the length of the newest of an exponential target
abbrev pub exp_parameters : Exp → ℕ × ℕ × ℕ
exp_parameters target = (target.base, target.repeat, target.scale)

-- the lengths of an exponential target
abbrev pub exp_lengths : Exp → ℕ → ℕ
exp_lengths target = exp_length target.base target.repeat target.scale
