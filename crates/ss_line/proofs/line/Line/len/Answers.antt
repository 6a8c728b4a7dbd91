use Rattle.ss_line.proofs.HeldLemmas.{IsLine-held}
use Rattle.ss_line.proofs.line.Line.len.Goals as goal

pub returns-clause-line : goal.returns-clause-line
returns-clause-line c = rw c.self.view_is at (IsLine-held _ _ _ c.self.invariant)
