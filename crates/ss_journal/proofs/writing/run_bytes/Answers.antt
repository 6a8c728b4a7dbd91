use Rattle.ss_journal.proofs.Common.{[], ap, arith, get_or, length, ◌≡◌, All-more, length-append, slot_form, Put}
use Rattle.ss_journal.proofs.CheckLemmas.{length-slot_form}
use Rattle.ss_journal.proofs.RunLemmas.{run_bytes-more}
use Rattle.ss_journal.proofs.writing.run_bytes.Goals as goal

pub loop-put-preserved : goal.loop-put-preserved
loop-put-preserved c =
    let d : Put = record { slot = 0; bytes = [] } in
    let k = c.loop-put.put-index in
    let put : Put = get_or c.args.run.now k d in
    let form = slot_form c.args.kind put.slot put.bytes in
    record {
      value = rw (c.add_slot.ensures.value, c.loop-put.invariant.value, run_bytes-more c.args.kind c.args.run.now k d c.loop-put-test.true);
      size = omega (
        arith,
        ap length c.add_slot.ensures.value,
        length-append c.loop-put.bytes.items form,
        length-slot_form c.args.kind put.slot put.bytes,
        c.add_slot.ensures.whole,
        c.loop-put.invariant.size,
      );
      whole = All-more (λ (p : Put). length p.bytes ≡ 128) c.args.run.now k d c.loop-put-test.true c.loop-put.invariant.whole c.add_slot.ensures.whole;
    }
