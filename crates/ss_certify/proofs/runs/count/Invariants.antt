use Rattle.std.proofs.Common.{◌≡◌, ◌≤◌, ◌*◌, ◌^◌, take}
use Rattle.ss_certify.specs.Runs.{run_count}
use Rattle.ss_certify.proofs.runs.count.Given as goal

abbrev pub invariant-loop-run : goal.invariant-loop-run
invariant-loop-run l = record {
  is : l.count ≡ run_count (take l.run-index l.runs);
  few : l.count ≤ l.run-index * 2 ^ 64;
}
