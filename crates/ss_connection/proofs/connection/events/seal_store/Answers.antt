use Rattle.ss_connection.proofs.HoldsLemmas.{Seals-held}
use Rattle.ss_program.proofs.Common.{◌∙◌, Err, Ok, sym, shown-sealed}
use Rattle.ss_program.specs.declared.status.Status.TheVariants.{DiskFault}
use Rattle.ss_program.proofs.StepLemmas.{step-so}
use Rattle.ss_connection.proofs.connection.events.seal_store.Goals as goal

pub returns-in-Ok-clause-seals : goal.returns-in-Ok-clause-seals
returns-in-Ok-clause-seals g c =
    let new = (g.D.Disk.seen c.seal.new.disk).told in
    step-so c.in-Ok.ensures.seals (λ told seals. Seals-held (Ok c.in-Ok.field-0) (Ok c.in-Ok.field-0) (λ X has. has)
    (g.met.D.Disk.knows_now c.seal.new.disk told)
    (shown-sealed c.seal.new.self.records.journal new.content c.in-Ok.ensures.sealed.sealed) seals.history)

pub returns-in-Ok-clause-open : goal.returns-in-Ok-clause-open
returns-in-Ok-clause-open g c =
    let seals = c.in-Ok.ensures.seals in
    record {
      serves = record { runs = c.in-Ok.ensures.runs; kept = λ told. (seals.told (sym seals.tells ∙ told)).kept };
      sealed = c.in-Ok.ensures.sealed.sealed;
    }

pub returns-in-Err-clause-seals : goal.returns-in-Err-clause-seals
returns-in-Err-clause-seals g c =
    step-so c.in-Err.ensures.seals (λ told seals. Seals-held (Err c.in-Err.field-0) (Err DiskFault) (λ X has. tt)
    (g.met.D.Disk.knows_now c.seal.new.disk told) tt seals.history)
