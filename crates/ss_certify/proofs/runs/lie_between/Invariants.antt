use Rattle.std.proofs.Common.{take}
use Rattle.ss_certify.specs.Runs.{LieBetween}
use Rattle.ss_certify.proofs.runs.lie_between.Given as goal

abbrev pub invariant-loop-run : goal.invariant-loop-run
invariant-loop-run l = LieBetween l.min l.max (take l.run-index l.runs)
