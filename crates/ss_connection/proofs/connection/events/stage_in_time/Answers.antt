use Rattle.ss_connection.proofs.CallLemmas.{unstarved}
use Rattle.ss_connection.proofs.EventLemmas.{Stages-starved, Stages-unsealed}
use Rattle.ss_connection.proofs.HoldsLemmas.{Stages-held}
use Rattle.ss_program.proofs.Common.{◌≡◌, Err, Ok, Reply, Result, refl, rules, step-as}
use Rattle.ss_program.proofs.StepLemmas.{step-given, step-so}
use Rattle.ss_program.specs.declared.status.Status.{Status}
use Rattle.ss_connection.proofs.connection.events.stage_in_time.Goals as goal

pub returns-in-Ok-clause-stages : goal.returns-in-Ok-clause-stages
returns-in-Ok-clause-stages g c =
    step-so c.in-Ok.ensures.stages (λ told stages. Stages-held (Ok c.in-Ok.reply) (g.met.D.Disk.knows_now c.stage.new.disk told) (λ P. tt) stages)

pub returns-in_err-seal_store-in-OutOfMemory-clause-stages : goal.returns-in_err-seal_store-in-OutOfMemory-clause-stages
returns-in_err-seal_store-in-OutOfMemory-clause-stages g c =
    let status = c.in_err-seal_store-in-OutOfMemory.field-0.0 in
    let same : c.from_residual.result ≡ Err status = search rules in
    let sealed = c.in_err-seal_store-in-OutOfMemory.ensures in
    let kept = c.in-Err.ensures.starved c.in-OutOfMemory.is in
    let stopped : Result Reply Status = Err status in
    rw same (step-as (rw (kept.0, kept.1) at sealed.seals)
    (λ seals. Stages-unsealed status (λ P. unstarved P (g.D.Disk.seen c.stage.new.disk).tells stopped sealed.status) seals))

pub returns-in_ok-seal_store-in-OutOfMemory-clause-stages : goal.returns-in_ok-seal_store-in-OutOfMemory-clause-stages
returns-in_ok-seal_store-in-OutOfMemory-clause-stages g c =
    let kept = c.in-Err.ensures.starved c.in-OutOfMemory.is in
    step-given (rw (kept.0, kept.1) at c.in_ok-seal_store-in-OutOfMemory.ensures.seals)
    (λ told seals. Stages-starved (g.D.Disk.seen c.args.disk.now) told refl c.in-Err.ensures.accepted seals)

pub returns-in_default : goal.returns-in_default
returns-in_default g c = record {
  stages = step-so c.in-Err.ensures.stages (λ told stages. Stages-held (Err c.in-Err.status) (g.met.D.Disk.knows_now c.stage.new.disk told)
      (λ P is. absurd (c.in_default.not-OutOfMemory is)) stages);
  serves = tt;
  status = c.in-Err.ensures.status;
}
