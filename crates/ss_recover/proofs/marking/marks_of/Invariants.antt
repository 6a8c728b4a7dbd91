use Rattle.ss_recover.proofs.Common.{AreMade, drop, marks_shown}
use Rattle.ss_recover.proofs.MarkLaws.{MayAllCome}
use Rattle.ss_recover.proofs.marking.marks_of.Given as goal

abbrev pub invariant-loop-one : goal.invariant-loop-one
invariant-loop-one l = MayAllCome (AreMade l.id l.found) (marks_shown l.marks) (drop l.one-index l.found)
