use Rattle.std.proofs.Common.{ℕ, ◌-◌, ◌*◌, ◌<◌}
use Rattle.ss_targets.specs.Exp.{exp_length}
use Rattle.ss_base.specs.declared.limits.TheConstants.{MOST_VALUES}
use Rattle.ss_targets.proofs.ExpLemmas.{InGroup}
use Rattle.ss_targets.proofs.exp.first_long.Given as goal

abbrev pub invariant-loop-length : goal.invariant-loop-length
invariant-loop-length l = record {
  group : InGroup l.base l.repeat l.scale l.group l.start l.length MOST_VALUES;
  short : (j : ℕ) → j < l.repeat * l.group → exp_length l.base l.repeat l.scale j < l.wanted;
}

abbrev pub decreases-loop-length : goal.decreases-loop-length
decreases-loop-length l = MOST_VALUES - l.start
