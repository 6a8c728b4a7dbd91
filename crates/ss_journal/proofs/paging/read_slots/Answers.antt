use Rattle.ss_journal.proofs.Common.{arith, on_ok_weaker, IsReadFrom}
use Rattle.ss_journal.proofs.PageLemmas.{slot_in_page-read}
use Rattle.ss_journal.proofs.StepLemmas.{step-from}
use Rattle.ss_journal.proofs.paging.read_slots.Goals as goal

pub returns : goal.returns
returns g c =
    let content = (g.D.Disk.seen c.args.disk.now).told.content in
    step-from c.read_at.ensures (λ told read. record {
      found = on_ok_weaker c.read_at.result
          (λ (filled : IsReadFrom content c.slot_place.result c.read_at.new.into) k lt lies.
          slot_in_page-read content c.read_at.new.into c.args.page k (omega (arith, c.read_at.auto.into)) lt lies
          (rw c.slot_place.ensures at filled)) read.bytes;
      reads = read.reads;
    })
