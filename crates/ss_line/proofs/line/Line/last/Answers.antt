use Rattle.std.proofs.Common.{length}
use Rattle.ss_line.proofs.PlaceLemmas.{stands-place_before}
use Rattle.ss_line.proofs.HeldLemmas.{last-held}
use Rattle.ss_line.proofs.line.Line.last.Goals as goal

pub returns-clause-stands : goal.returns-clause-stands
returns-clause-stands c =
    let held = rw c.self.view_is at c.self.invariant in
    stands-place_before c.args.self.now.entries (length c.args.self.now.entries) _ (last-held c.args.self.now _ _ held)
