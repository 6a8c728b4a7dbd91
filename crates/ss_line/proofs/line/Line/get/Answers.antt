use Rattle.std.proofs.Common.{arith}
use Rattle.ss_line.proofs.HeldLemmas.{within-stands, node-entry}
use Rattle.ss_line.proofs.line.Line.get.Goals as goal

pub index-requires : goal.index-requires
index-requires g c =
    let held = rw c.self.view_is at c.self.invariant in
    let within = within-stands _ _ _ held c.args.at c.requires in
    omega (arith, within)

pub returns-clause-entry : goal.returns-clause-entry
returns-clause-entry g c =
    let held = rw c.self.view_is at c.self.invariant in
    node-entry _ _ _ held c.args.at c.requires c.index.result.now c.index.ensures
