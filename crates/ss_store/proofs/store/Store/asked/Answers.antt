use Rattle.ss_store.proofs.Common.{◌∙◌, sym, arith, nat_tests, part_named}
use Rattle.std.specs.Prelude.{true, false}
use Rattle.ss_store.proofs.AskedStreams.{named-found, named-missing, refuses_query_held-known, refuses_query_held-unknown}
use Rattle.ss_store.proofs.store.Store.asked.Goals as goal

pub returns-in_default-clause-refused : goal.returns-in_default-clause-refused
returns-in_default-clause-refused c =
    refuses_query_held-unknown c.args.self.now.streams c.args.query.now
    (named-missing (part_named c.args.query.now.name c.args.self.now.streams) (sym c.find.ensures.number ∙ c.in_default.is))

pub returns-then-query-clause-refused : goal.returns-then-query-clause-refused
returns-then-query-clause-refused c =
    let part = named-found (part_named c.args.query.now.name c.args.self.now.streams) c.in-Some.id (sym c.find.ensures.number ∙ c.in-Some.is) in
    refuses_query_held-known c.args.self.now.streams c.args.query.now part.0 true part.1 (grind (arith, nat_tests))

pub returns-clause-accepted : goal.returns-clause-accepted
returns-clause-accepted c =
    let part = named-found (part_named c.args.query.now.name c.args.self.now.streams) c.in-Some.id (sym c.find.ensures.number ∙ c.in-Some.is) in
    refuses_query_held-known c.args.self.now.streams c.args.query.now part.0 false part.1 (grind (arith, nat_tests))

pub returns-clause-asks : goal.returns-clause-asks
returns-clause-asks c = record { order = omega arith; stands = c.in-Some.ensures.stands; same = c.in-Some.ensures.same }
