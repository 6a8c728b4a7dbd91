use Rattle.ss_program.proofs.Common.{Err, ap, step-as}
use Rattle.ss_program.proofs.CertifyLemmas.{Recovers-only_replies}
use Rattle.ss_program.proofs.certifying.make_evidence.Goals as goal

pub returns-in-Ok-clause-finds : goal.returns-in-Ok-clause-finds
returns-in-Ok-clause-finds g c = step-as c.in-Ok.ensures.makes (λ makes. record {
  answer = λ streams recovers. makes.made streams
      (Recovers-only_replies c.args.store.now.records (g.D.Disk.seen c.args.disk.now).told.content streams c.requires.open.sealed recovers);
  reads = makes.reads;
})

pub returns-in-Err-Disk-clause-finds : goal.returns-in-Err-Disk-clause-finds
returns-in-Err-Disk-clause-finds g c =
    step-as (rw c.in-Err-Disk.field-0-is at c.in-Err-Disk.ensures.makes) (λ makes. record { answer = tt; reads = makes.reads })

pub unreachable-requires : goal.unreachable-requires
unreachable-requires g c =
    let refused = (c.in-Err-Refused.ensures.refused c.requires.open.serves.runs _).0 (ap (λ e. Err e) c.in-Err-Refused.field-0-is) in
    cc (refused, c.requires.taken)
