use Rattle.ss_journal.proofs.Common.{ℕ, take, drop, ◌∙◌, ap, arith}
use Rattle.ss_journal.proofs.HeaderLemmas.{read-piece}
use Rattle.ss_journal.proofs.StepLemmas.{step-from}
use Rattle.ss_journal.proofs.reading.read_slot.Goals as goal

pub returns : goal.returns
returns g c =
    let content = (g.D.Disk.seen c.args.disk.now).told.content in
    step-from c.in_ok-read_at.ensures (λ told read. record {
      found = λ lies. read-piece content c.read_at.new.into c.slot_place.result 128 (omega (arith, c.read_at.auto.into)) (omega (arith, c.slot_place.ensures))
          read.bytes
          ∙ ap (λ (at : ℕ). take 128 (drop at content)) c.slot_place.ensures;
      reads = read.reads;
    })
