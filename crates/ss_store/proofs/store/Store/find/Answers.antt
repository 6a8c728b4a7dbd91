use Rattle.ss_store.proofs.Common.{◌≡◌, refl, IsSome, part_named, part_numbered, held_parts}
use Rattle.ss_store.proofs.Named.{id_of-named, IsFoundBy, IsFoundBy-find, IfSome-weaker}
use Rattle.ss_store.proofs.store.Store.find.Goals as goal

pub returns-clause-number : goal.returns-clause-number
returns-clause-number c = rw (c.find.ensures, c.self.invariant.0.listed, id_of-named c.args.name.now _, ← c.self.view_is) refl

pub returns-clause-same : goal.returns-clause-same
returns-clause-same c =
    let parts = held_parts c.self.inside.streams.items in
    let found = IsFoundBy-find c.args.name.now parts c.self.inside.catalog c.find.result c.self.invariant.0.numbers c.self.invariant.0.listed c.find.ensures in
    rw (← c.self.view_is)
    (IfSome-weaker (IsFoundBy c.args.name.now parts) (λ id. part_numbered id.0 parts ≡ part_named c.args.name.now parts) c.find.result
    (λ id by. by.same) found)

pub returns-clause-stands : goal.returns-clause-stands
returns-clause-stands c =
    let parts = held_parts c.self.inside.streams.items in
    let found = IsFoundBy-find c.args.name.now parts c.self.inside.catalog c.find.result c.self.invariant.0.numbers c.self.invariant.0.listed c.find.ensures in
    rw (← c.self.view_is)
    (IfSome-weaker (IsFoundBy c.args.name.now parts) (λ id. IsSome (part_numbered id.0 parts)) c.find.result (λ id by. by.stands) found)
