use Rattle.std.proofs.Common.{◌≡◌, ◌≤◌, ◌*◌, ◌^◌, take}
use Rattle.std.specs.Prelude.{unsigned_abs}
use Rattle.ss_certify.specs.Runs.{run_count, run_total}
use Rattle.ss_certify.proofs.runs.total.Given as goal

abbrev pub invariant-loop-run : goal.invariant-loop-run
invariant-loop-run l = record {
  is : l.total ≡ run_total (take l.run-index l.runs);
  near : unsigned_abs l.total ≤ run_count (take l.run-index l.runs) * 2 ^ 63;
}
