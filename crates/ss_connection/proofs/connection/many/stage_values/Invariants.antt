use Rattle.std.proofs.Common.{◌-◌, ◌≡◌, ◌≤◌, None, length}
use Rattle.ss_connection.proofs.ManyLemmas.{StagesSome}
use Rattle.ss_connection.specs.Many.{values_at}
use Rattle.ss_outside.specs.Step.{Step}
use Rattle.ss_outside.specs.Verdict.{fine}
use Rattle.ss_program.specs.Answer.{IsServing}
use Rattle.ss_connection.proofs.connection.many.stage_values.Given as goal

-- so many were staged so far, none of them refused
abbrev pub invariant-loop-taken : goal.invariant-loop-taken
invariant-loop-taken g l = record {
  serves : IsServing (g.D.Disk.seen l.disk) l.store;
  most : l.most ≡ length (values_at l.name l.times l.values);
  few : l.taken.count ≤ l.most;
  refusal : l.taken.refusal ≡ None;
  stages : Step fine (g.D.Disk.seen l.fn.disk) (g.D.Disk.seen l.disk)
      (StagesSome l.name (values_at l.name l.times l.values) l.fn.store.records l.store.records l.taken);
}

abbrev pub decreases-loop-taken : goal.decreases-loop-taken
decreases-loop-taken g l = l.most - l.taken.count
