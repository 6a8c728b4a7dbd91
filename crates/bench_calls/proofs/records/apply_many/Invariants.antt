use Rattle.ss_outside.specs.Disk.{OfContent}
use Rattle.ss_records.specs.Kept.{AreAtRest, AreKept}
use Rattle.bench_calls.proofs.records.apply_many.Given as goal

abbrev pub invariant-loop-k : goal.invariant-loop-k
invariant-loop-k g l = record {
  at_rest : AreAtRest l.records;
  one_disk : OfContent (g.D.Disk.seen l.disk) (AreKept l.records);
}
