use Rattle.std.proofs.Common.{sym, ap, arith, ◌-◌}
use Rattle.ss_line.specs.Line.{LineState}
use Rattle.ss_line.proofs.HeldLemmas.{Links-same, within-stands, within-place_before, within-place_at, node-entry, node-before, node-behind}
use Rattle.ss_line.proofs.HeldLemmas.{line_of-held, IsHeld-line_of}
use Rattle.ss_line.proofs.CutLemmas.{IsHeld-cut}
use Rattle.ss_line.proofs.line.Line.cut_out.Goals as goal

pub index-cut-requires : goal.index-cut-requires
index-cut-requires g c =
    let held = rw c.self.view_is at c.self.invariant in
    let within = within-stands _ _ _ held c.args.at c.requires in
    omega (arith, within)

pub join-requires-clause-before : goal.join-requires-clause-before
join-requires-clause-before g c =
    let held = rw c.self.view_is at c.self.invariant in
    within-place_before _ _ _ held _ _ (node-before _ _ _ held c.args.at c.requires c.index-cut.result.now c.index-cut.ensures)

pub join-requires-clause-behind : goal.join-requires-clause-behind
join-requires-clause-behind g c =
    let held = rw c.self.view_is at c.self.invariant in
    within-place_at _ _ _ held _ _ (node-behind _ _ _ held c.args.at c.requires c.index-cut.result.now c.index-cut.ensures)

pub give_back-requires : goal.give_back-requires
give_back-requires g c =
    let held = rw c.self.view_is at c.self.invariant in
    let within = within-stands _ _ _ held c.args.at c.requires in
    omega (arith, within, c.join.ensures.size.nodes)

pub invariant_of-self : goal.invariant_of-self
invariant_of-self g c =
    let held = rw c.self.view_is at c.self.invariant in
    let before = node-before _ _ _ held c.args.at c.requires c.index-cut.result.now c.index-cut.ensures in
    let behind = node-behind _ _ _ held c.args.at c.requires c.index-cut.result.now c.index-cut.ensures in
    let joins = Links-same _ _ _ _ _ _ before behind c.join.ensures in
    rw (ap (λ (line : LineState). line.spare) (sym c.self.view_is)) at
    (IsHeld-line_of _ _ _ (IsHeld-cut _ _ _ held c.args.at c.requires _ _ joins c.give_back.ensures (c.self.inside.len - 1)
    (omega (arith, c.requires, held.whole))))

pub returns-clause-entries : goal.returns-clause-entries
returns-clause-entries g c =
    let held = rw c.self.view_is at c.self.invariant in
    let before = node-before _ _ _ held c.args.at c.requires c.index-cut.result.now c.index-cut.ensures in
    let behind = node-behind _ _ _ held c.args.at c.requires c.index-cut.result.now c.index-cut.ensures in
    let joins = Links-same _ _ _ _ _ _ before behind c.join.ensures in
    ap (λ (line : LineState). line.entries)
    (line_of-held _ _ _ (IsHeld-cut _ _ _ held c.args.at c.requires _ _ joins c.give_back.ensures (c.self.inside.len - 1)
    (omega (arith, c.requires, held.whole))))

pub returns-clause-entry : goal.returns-clause-entry
returns-clause-entry g c =
    let held = rw c.self.view_is at c.self.invariant in
    node-entry _ _ _ held c.args.at c.requires c.index-cut.result.now c.index-cut.ensures
