use Rattle.std.proofs.Common.{sym, ap}
use Rattle.ss_line.specs.Line.{LineState}
use Rattle.ss_line.proofs.HeldLemmas.{within-stands, line_of-held, IsHeld-line_of}
use Rattle.ss_line.proofs.CutLemmas.{IsHeld-set}
use Rattle.ss_line.proofs.line.Line.set.Goals as goal

pub write-requires : goal.write-requires
write-requires g c =
    let held = rw c.self.view_is at c.self.invariant in
    within-stands _ _ _ held c.args.at c.requires

pub invariant_of-self : goal.invariant_of-self
invariant_of-self g c =
    let held = rw c.self.view_is at c.self.invariant in
    rw (ap (λ (line : LineState). line.spare) (sym c.self.view_is)) at
    (IsHeld-line_of _ _ _ (IsHeld-set _ _ _ held c.args.at c.requires c.args.entry _ c.write.ensures))

pub returns-clause-entries : goal.returns-clause-entries
returns-clause-entries g c =
    let held = rw c.self.view_is at c.self.invariant in
    ap (λ (line : LineState). line.entries) (line_of-held _ _ _ (IsHeld-set _ _ _ held c.args.at c.requires c.args.entry _ c.write.ensures))
