use Rattle.ss_line.proofs.HeldLemmas.{IsHeld-empty}
use Rattle.ss_line.proofs.line.Line.new.Goals as goal

pub invariant_of-result : goal.invariant_of-result
invariant_of-result c = IsHeld-empty c.new.result c.new.ensures
