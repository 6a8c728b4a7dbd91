use Rattle.ss_stream.proofs.Common.{◌-◌, length, index_of, rule_of, params_of}
use Rattle.ss_stream.proofs.counting.closed_windows.Given as goal
use Rattle.ss_stream.proofs.Surveys.{IsCounted}

abbrev pub invariant-loop-next : goal.invariant-loop-next
invariant-loop-next g l = IsCounted (rule_of (params_of l.part.target)) l.n l.part.line.entries l.at l.first l.count

abbrev pub decreases-loop-next : goal.decreases-loop-next
decreases-loop-next g l = length l.part.line.entries - index_of l.part.line.entries l.at
