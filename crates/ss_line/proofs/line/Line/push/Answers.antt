use Rattle.std.proofs.Common.{refl, ap, arith, ◌-◌, inl, inr}
use Rattle.ss_line.specs.Line.{LineState}
use Rattle.ss_line.proofs.PlaceLemmas.{StandsIn-push}
use Rattle.ss_line.proofs.HeldLemmas.{Links-same, within-free, line_of-held, IsHeld-line_of}
use Rattle.ss_line.proofs.PushLemmas.{place-room, IsTaken-place, place-fresh, place-below, place-last, within-last, IsHeld-push}
use Rattle.ss_line.proofs.line.Line.push.Goals as goal

pub take_place-at-requires-clause-free : goal.take_place-at-requires-clause-free
take_place-at-requires-clause-free g c = within-free _ _ _ c.self.invariant 0 _ c.self.invariant.free

pub take_place-at-requires-clause-room : goal.take_place-at-requires-clause-room
take_place-at-requires-clause-room g c =
    let held = rw c.self.view_is at c.self.invariant in
    elim (place-room _ _ _ held c.requires) [ inl free ↦ inl free | inr room ↦ inr (omega (arith, room)) ]

pub join-requires-clause-before : goal.join-requires-clause-before
join-requires-clause-before g c =
    let held = rw c.self.view_is at c.self.invariant in
    within-last _ _ _ held c.requires _ _ _ c.take_place-at.ensures

pub join-requires-clause-behind : goal.join-requires-clause-behind
join-requires-clause-behind g c =
    let held = rw c.self.view_is at c.self.invariant in
    (IsTaken-place _ _ _ held c.requires _ _ _ c.take_place-at.ensures).below

pub join-requires-2-clause-before : goal.join-requires-2-clause-before
join-requires-2-clause-before g c =
    let held = rw c.self.view_is at c.self.invariant in
    let below = (IsTaken-place _ _ _ held c.requires _ _ _ c.take_place-at.ensures).below in
    omega (arith, below, c.join.ensures.size.nodes)

pub invariant_of-self : goal.invariant_of-self
invariant_of-self g c =
    let held = rw c.self.view_is at c.self.invariant in
    let last = place-last _ _ _ held c.requires _ _ _ c.take_place-at.ensures in
    let joins = Links-same _ _ _ _ _ _ last refl c.join.ensures in
    IsHeld-line_of _ _ _ (IsHeld-push _ _ _ held c.requires _ _ _ c.take_place-at.ensures _ _ joins c.join-2.ensures (c.self.inside.spare - 1)
    (omega (arith, c.requires, ap (λ (line : LineState). line.spare) c.self.view_is)))

pub returns-clause-pushed : goal.returns-clause-pushed
returns-clause-pushed g c =
    let held = rw c.self.view_is at c.self.invariant in
    let last = place-last _ _ _ held c.requires _ _ _ c.take_place-at.ensures in
    let joins = Links-same _ _ _ _ _ _ last refl c.join.ensures in
    ap (λ (line : LineState). line.entries)
    (line_of-held _ _ _ (IsHeld-push _ _ _ held c.requires _ _ _ c.take_place-at.ensures _ _ joins c.join-2.ensures (c.self.inside.spare - 1)
    (omega (arith, c.requires, ap (λ (line : LineState). line.spare) c.self.view_is))))

pub returns-clause-fresh : goal.returns-clause-fresh
returns-clause-fresh g c =
    let held = rw c.self.view_is at c.self.invariant in
    place-fresh _ _ _ held c.requires _ _ _ c.take_place-at.ensures

pub returns-clause-below : goal.returns-clause-below
returns-clause-below g c =
    let held = rw c.self.view_is at c.self.invariant in
    place-below _ _ _ held c.requires _ _ _ c.take_place-at.ensures

pub returns-clause-stands : goal.returns-clause-stands
returns-clause-stands g c =
    let pushed = returns-clause-pushed g c in
    rw pushed (StandsIn-push c.args.self.now.entries c.take_place-at.result c.args.entry)
