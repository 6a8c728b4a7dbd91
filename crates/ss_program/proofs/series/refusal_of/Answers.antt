use Rattle.ss_program.proofs.Common.{◌≡◌, ◌∙◌, Bool, true, false, Option, Some, None, refl, sym, le-ltb, lt-ltb, is_some, not, part_named, named-found}
use Rattle.ss_program.proofs.Common.{named-missing, refuses_query_held-known, refuses_query_held-unknown}
use Rattle.ss_catalog.specs.declared.stream_id.StreamId.{StreamId}
use Rattle.ss_program.proofs.series.refusal_of.Goals as goal

-- whether a number was found
absent : (o : Option StreamId) (b : Bool) → is_some o ≡ not b → b ≡ true → o ≡ None
absent None b is none = refl
absent (Some id) b is none = let wrong = rw none at is in cc

present : (o : Option StreamId) (b : Bool) → is_some o ≡ not b → b ≡ false → (id : StreamId) × (o ≡ Some id)
present None b is some = let wrong = rw some at is in cc
present (Some id) b is some = (id, refl)

pub returns-then-is_none : goal.returns-then-is_none
returns-then-is_none c =
    sym (refuses_query_held-unknown c.args.store.now.streams c.args.query.now
    (named-missing (part_named c.args.query.now.name c.args.store.now.streams)
    (sym c.find.ensures.number ∙ absent c.find.result c.is_none.result c.is_none.ensures c.if-is_none.true)))

pub returns-then-query : goal.returns-then-query
returns-then-query c =
    let id = present c.find.result c.is_none.result c.is_none.ensures c.if-is_none.false in
    let part = named-found (part_named c.args.query.now.name c.args.store.now.streams) id.0 (sym c.find.ensures.number ∙ id.1) in
    sym (refuses_query_held-known c.args.store.now.streams c.args.query.now part.0 true part.1
    (lt-ltb c.args.query.now.to c.args.query.now.from c.if-query.true))

pub returns : goal.returns
returns c =
    let id = present c.find.result c.is_none.result c.is_none.ensures c.if-is_none.false in
    let part = named-found (part_named c.args.query.now.name c.args.store.now.streams) id.0 (sym c.find.ensures.number ∙ id.1) in
    sym (refuses_query_held-known c.args.store.now.streams c.args.query.now part.0 false part.1
    (le-ltb c.args.query.now.to c.args.query.now.from c.if-query.false))
