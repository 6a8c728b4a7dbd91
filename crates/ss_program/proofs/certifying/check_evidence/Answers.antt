use Rattle.ss_program.proofs.Common.{Err, ap, step-as}
use Rattle.ss_program.proofs.CertifyLemmas.{never-wrong}
use Rattle.ss_program.proofs.certifying.check_evidence.Goals as goal

pub returns-in-Ok-true-clause-reads : goal.returns-in-Ok-true-clause-reads
returns-in-Ok-true-clause-reads g c = step-as c.in-Ok-true.ensures.checks (λ checks. checks.reads)

pub returns-in-Ok-false-clause-reads : goal.returns-in-Ok-false-clause-reads
returns-in-Ok-false-clause-reads g c = step-as c.in-Ok-false.ensures.checks (λ checks. checks.reads)

pub returns-in-Ok-false-clause-status : goal.returns-in-Ok-false-clause-status
returns-in-Ok-false-clause-status g c =
    let old = g.D.Disk.seen c.args.disk.now in
    let new = g.D.Disk.seen c.check.new.disk in
    let store = c.args.store.now in
    let checks = rw c.in-Ok-false.field-0-test at c.in-Ok-false.ensures.checks in
    never-wrong store old c.args.query.now c.args.end c.args.evidence.now new.told c.requires.open c.requires.kind c.requires.made (λ told. checks.told told)

pub unreachable-requires : goal.unreachable-requires
unreachable-requires g c =
    let refused = (c.in-Err-Refused.ensures.refused c.requires.open.serves.runs _).0 (ap (λ e. Err e) c.in-Err-Refused.field-0-is) in
    cc (refused, c.requires.taken)
