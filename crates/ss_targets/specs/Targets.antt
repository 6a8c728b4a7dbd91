-- What a target is made of.
use Rattle.std.specs.Prelude.{ℕ}
use Rattle.ss_catalog.specs.declared.params.Params.{Params}
use Rattle.ss_catalog.specs.Params.{step_for}
use Rattle.ss_catalog.specs.declared.params.Family.{Family}
use Rattle.ss_catalog.specs.declared.params.Family.TheVariants.{Exp as ExpFamily, Power as PowerFamily}
use Rattle.ss_targets.specs.ExpLaws.{exp_length-positive, exp_length-never_falls}
use Rattle.ss_targets.specs.ExpFamily.{exp_parameters}
use Rattle.ss_targets.specs.Windowing.{ArePositive, NeverFall}
use Rattle.ss_targets.specs.PowerFamily.{power_parameters}
use Rattle.ss_targets.specs.PowerLaws.{power_length-positive, power_length-never_falls}
use Rattle.ss_targets.specs.Lengths.{family_lengths, lengths_of}
use Rattle.ss_targets.specs.declared.target.Target.{Target}
use Rattle.ss_targets.specs.declared.target.Windows.{Windows}
use Rattle.ss_targets.specs.declared.target.Windows.TheVariants.{Exp, Power}

-- the family of windows
abbrev pub family_of : Windows → Family
family_of (Exp exp) = let p = exp_parameters exp in ExpFamily p.0 p.1 p.2
family_of (Power power) = let p = power_parameters power in PowerFamily p.0 p.1 p.2 p.3

-- the parameters of a target
abbrev pub params_of : Target → Params
params_of target = record { family = family_of target.windows; within = step_for target.step }

-- the window lengths of a target
abbrev pub target_lengths : Target → ℕ → ℕ
target_lengths target = lengths_of (params_of target)

windows-positive : (windows : Windows) → ArePositive (family_lengths (family_of windows))
windows-positive (Exp exp) = exp_length-positive exp.in_range
windows-positive (Power power) = power_length-positive power.in_range

windows-never_fall : (windows : Windows) → NeverFall (family_lengths (family_of windows))
windows-never_fall (Exp exp) = exp_length-never_falls exp.in_range
windows-never_fall (Power power) = power_length-never_falls power.in_range

pub lengths-positive : (target : Target) → ArePositive (target_lengths target)
lengths-positive target = windows-positive target.windows

pub lengths-never_fall : (target : Target) → NeverFall (target_lengths target)
lengths-never_fall target = windows-never_fall target.windows
