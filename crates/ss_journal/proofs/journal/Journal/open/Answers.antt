use Rattle.ss_journal.proofs.Common.{sym, reads-joined}
use Rattle.ss_journal.proofs.KeptLemmas.{IsKept-born, IsKept-unborn}
use Rattle.ss_journal.proofs.RedoLemmas.{redo-neither}
use Rattle.ss_journal.proofs.StepLemmas.{step-from, step-next, step-refused}
use Rattle.ss_journal.proofs.journal.Journal.open.Goals as goal

pub returns-then-is_unborn-clause-opens : goal.returns-then-is_unborn-clause-opens
returns-then-is_unborn-clause-opens g c =
    step-from c.in_ok-head.ensures (λ told read. record {
      opens = IsKept-unborn c.kind-kind.result c.in_ok-head.head.length c.slots_in-slots.result c.in_ok-new.field-0 c.in_ok-new-2.field-0 _
          (c.kind-kind.ensures _ read.found) read.found.whole c.slots_in-slots.ensures.value
          c.in_ok-new.ensures
          (sym (c.if-is_unborn.ensures _ read.found)) c.in_ok-new-2.ensures;
      reads = read.reads;
    })

pub returns-then-not-is_born-clause-opens : goal.returns-then-not-is_born-clause-opens
returns-then-not-is_born-clause-opens g c =
    step-refused c.in_ok-head.ensures (λ told read. record {
      opens = redo-neither _ (sym (c.if-not-is_born.ensures _ read.found)) (sym (c.if-is_unborn.ensures _ read.found));
      reads = read.reads;
    })

pub returns-clause-opens : goal.returns-clause-opens
returns-clause-opens g c =
    let read = c.in_ok-read.read in
    step-next c.in_ok-head.ensures c.in_ok-read.ensures.entries (λ told then head entries.
    record {
      opens = IsKept-born c.kind-kind.result _ read.in_use read.waiting read.extent c.in_ok-new-4.field-0
          (c.kind-kind.ensures _ head.found) (sym (c.if-not-is_born.ensures _ head.found)) (rw head.reads.same.content at entries.found) c.in_ok-new-4.ensures;
      reads = reads-joined _ _ _ head.reads entries.reads;
    })
