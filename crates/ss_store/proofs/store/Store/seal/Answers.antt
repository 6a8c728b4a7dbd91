use Rattle.ss_store.proofs.Common.{true, step-from}
use Rattle.ss_store.proofs.Sealed.{SealsStore-records}
use Rattle.ss_store.proofs.store.Store.seal.Goals as goal

pub returns-in-Ok-clause-seals : goal.returns-in-Ok-clause-seals
returns-in-Ok-clause-seals g c =
    rw (← c.self.view_is)
    (step-from c.in-Ok.ensures.seals (λ told seals. SealsStore-records _ c.seal.new.self _ _ _ _ seals (rw (← c.self.view_is) at c.requires.one_disk told)))

pub returns-in-Err-clause-seals : goal.returns-in-Err-clause-seals
returns-in-Err-clause-seals g c =
    rw (← c.self.view_is)
    (step-from c.in-Err.ensures.seals (λ told seals. SealsStore-records _ c.seal.new.self true _ _ _ seals (rw (← c.self.view_is) at c.requires.one_disk told)))
