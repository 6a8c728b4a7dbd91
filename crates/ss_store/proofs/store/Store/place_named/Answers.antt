use Rattle.ss_store.proofs.Common.{◌∙◌, sym, part_named}
use Rattle.ss_store.proofs.AskedStreams.{named-missing}
use Rattle.ss_store.proofs.store.Store.place_named.Goals as goal

pub returns-in-Some : goal.returns-in-Some
returns-in-Some c = (c.place.ensures.inside, c.place.ensures.at ∙ c.in-Some.ensures.same)

pub returns-in-None : goal.returns-in-None
returns-in-None c = named-missing (part_named c.args.name.now c.args.self.now.streams) (sym c.in-None.ensures.number)
