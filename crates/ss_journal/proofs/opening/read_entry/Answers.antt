use Rattle.ss_journal.proofs.Common.{ℕ, take, drop, ◌∙◌, ap, arith}
use Rattle.ss_journal.proofs.HeaderLemmas.{read-piece}
use Rattle.ss_journal.proofs.StepLemmas.{step-from}
use Rattle.ss_journal.proofs.opening.read_entry.Goals as goal

pub returns : goal.returns
returns g c =
    let content = (g.D.Disk.seen c.args.disk.now).told.content in
    step-from c.in_ok-read_at.ensures (λ told read. record {
      found = λ long. read-piece content c.read_at.new.into c.entry_place.result 544 (omega (arith, c.read_at.auto.into)) (omega (arith, c.entry_place.ensures))
          read.bytes
          ∙ ap (λ (at : ℕ). take 544 (drop at content)) c.entry_place.ensures;
      reads = read.reads;
    })
