use Rattle.ss_store.proofs.Common.{◌∙◌, sym, arith, true, false, nat_tests, part_named}
use Rattle.ss_store.proofs.AskedStreams.{named-found, named-missing}
use Rattle.ss_store.proofs.ReadRefusals.{refuses_values_held-known, refuses_values_held-unknown}
use Rattle.ss_store.proofs.store.Store.values.Goals as goal

pub returns-in_default-clause-refused : goal.returns-in_default-clause-refused
returns-in_default-clause-refused c =
    refuses_values_held-unknown c.args.self.now.streams c.args.name.now c.args.from c.args.to
    (named-missing (part_named c.args.name.now c.args.self.now.streams) (sym c.find.ensures.number ∙ c.in_default.is))

pub returns-then-to-from-clause-refused : goal.returns-then-to-from-clause-refused
returns-then-to-from-clause-refused c =
    let part = named-found (part_named c.args.name.now c.args.self.now.streams) c.in-Some.id (sym c.find.ensures.number ∙ c.in-Some.is) in
    refuses_values_held-known c.args.self.now.streams c.args.name.now c.args.from c.args.to part.0 true part.1 (grind (arith, nat_tests))

pub returns-clause-accepted : goal.returns-clause-accepted
returns-clause-accepted c =
    let part = named-found (part_named c.args.name.now c.args.self.now.streams) c.in-Some.id (sym c.find.ensures.number ∙ c.in-Some.is) in
    refuses_values_held-known c.args.self.now.streams c.args.name.now c.args.from c.args.to part.0 false part.1 (grind (arith, nat_tests))
