use Rattle.std.proofs.Common.{◌≡◌, ◌∙◌, ◌+◌, length, sym, subst}
use Rattle.std.specs.Prelude.{IfSome}
use Rattle.ss_model.specs.History.{events_of}
use Rattle.ss_parts.specs.declared.parts.StreamParts.{StreamParts}
use Rattle.ss_store.specs.Kept.{part_named}
use Rattle.ss_store.proofs.AskedStreams.{named-found, named-missing}
use Rattle.ss_replica.proofs.HeldLemmas.{own-found, own-missing}
use Rattle.ss_replica.proofs.numbers.events_named.Goals as goal

pub returns-in-None-clause-history : goal.returns-in-None-clause-history
returns-in-None-clause-history c history whole agree =
    let parts = c.args.store.now.streams in
    let name = c.args.name.now in
    own-missing parts history name whole agree (named-missing (part_named name parts) (sym c.in-None.ensures.number))

pub returns-in-Some-clause-history : goal.returns-in-Some-clause-history
returns-in-Some-clause-history c history whole agree =
    let parts = c.args.store.now.streams in
    let name = c.args.name.now in
    let found = named-found (part_named name parts) c.in-Some.id (sym c.in-Some.ensures.number) in
    let count : c.events.result ≡ 1 + length (events_of history found.0.name) =
    subst (λ o. IfSome o (λ (part : StreamParts). c.events.result ≡ 1 + length (events_of history part.name))) (c.in-Some.ensures.same ∙ found.1)
    (c.events.ensures.history history whole agree) in
    count ∙ sym (own-found parts history name found.0 whole agree found.1)
