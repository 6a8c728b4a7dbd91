use Rattle.std.proofs.Common.{arith}
use Rattle.ss_line.proofs.PlaceLemmas.{stands-place_at, stands-place_before}
use Rattle.ss_line.proofs.HeldLemmas.{within-stands, node-before, node-behind}
use Rattle.ss_line.proofs.line.Line.neighbours.Goals as goal

pub index-node-requires : goal.index-node-requires
index-node-requires g c =
    let held = rw c.self.view_is at c.self.invariant in
    let within = within-stands _ _ _ held c.args.at c.requires in
    omega (arith, within)

pub returns-clause-before : goal.returns-clause-before
returns-clause-before g c =
    let held = rw c.self.view_is at c.self.invariant in
    node-before _ _ _ held c.args.at c.requires c.index-node.result.now c.index-node.ensures

pub returns-clause-behind : goal.returns-clause-behind
returns-clause-behind g c =
    let held = rw c.self.view_is at c.self.invariant in
    node-behind _ _ _ held c.args.at c.requires c.index-node.result.now c.index-node.ensures

pub returns-clause-stand : goal.returns-clause-stand
returns-clause-stand g c = (
  stands-place_before c.args.self.now.entries _ _ (returns-clause-before g c),
  stands-place_at c.args.self.now.entries _ _ (returns-clause-behind g c),
)
