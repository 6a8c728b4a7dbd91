use Rattle.ss_schedule.specs.Keyed.{IsKeyed, merge_rule}
use Rattle.ss_schedule.specs.Pairs.{NoPairFits}
use Rattle.test_window.proofs.schedule.agree.Given as goal

abbrev pub invariant-loop-count : goal.invariant-loop-count
invariant-loop-count g l = record {
  keyed : IsKeyed l.count l.line.entries l.schedule;
  none : NoPairFits (merge_rule l.schedule) l.count l.line.entries;
}
