use Rattle.ss_store.proofs.Stepping.{StagesEvent-applied}
use Rattle.ss_store.proofs.store.Store.stage.Goals as goal

pub returns-clause-history : goal.returns-clause-history
returns-clause-history g c runs told =
    StagesEvent-applied c.args.event.now c.args.self.now c.stage_event.new.self (λ d. g.D.Disk.seen d) c.args.disk.now c.stage_event.new.disk
    c.stage_event.result c.stage_event.ensures.applies c.stage_event.ensures.said (c.stage_event.ensures.costs told).within c.stage_event.ensures.uncalled
    told (g.met.D.Disk.knows_now c.args.disk.now told) (c.requires.one_disk runs told)
