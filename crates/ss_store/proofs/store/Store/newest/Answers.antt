use Rattle.ss_store.proofs.Common.{◌∙◌, sym, Unknown, part_named}
use Rattle.ss_store.proofs.AskedStreams.{named-found, named-missing}
use Rattle.ss_store.proofs.ReadRefusals.{refused-known, refused-unknown, refuses_reading_held-known, refuses_reading_held-unknown}
use Rattle.ss_store.proofs.store.Store.newest.Goals as goal

pub returns-in-None-clause-refused : goal.returns-in-None-clause-refused
returns-in-None-clause-refused g c runs r =
    refused-unknown Unknown r _
    (refuses_reading_held-unknown c.args.self.now.streams c.args.name.now
    (named-missing (part_named c.args.name.now c.args.self.now.streams) (sym c.find.ensures.number ∙ c.in-None.is)))

pub returns-in-Some-clause-refused : goal.returns-in-Some-clause-refused
returns-in-Some-clause-refused g c runs r =
    let part = named-found (part_named c.args.name.now c.args.self.now.streams) c.in-Some.id (sym c.find.ensures.number ∙ c.in-Some.is) in
    refused-known c.newest_of.result r _ (refuses_reading_held-known c.args.self.now.streams c.args.name.now part.0 part.1) c.newest_of.ensures.unrefused
