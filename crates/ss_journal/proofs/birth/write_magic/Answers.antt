use Rattle.ss_journal.proofs.Common.{[], sym, cond-false, has_magic, magic, Plain}
use Rattle.ss_journal.proofs.StepLemmas.{step-next, writes-after_read}
use Rattle.ss_journal.proofs.birth.write_magic.Goals as goal

pub returns : goal.returns
returns g c =
    let before = (g.D.Disk.seen c.args.disk.now).told in
    let after = (g.D.Disk.seen c.write.new.disk).told in
    step-next c.in_ok-head.ensures c.write.ensures.wrote (λ told then head wrote.
    let none = cond-false (has_magic before.content) [] (magic Plain) (sym (c.if-has_magic.ensures _ head.found)) in
    rw none (writes-after_read 1 (magic Plain) before _ after (g.met.D.Disk.knows_now c.args.disk.now told) head.reads wrote))
