use Rattle.ss_journal.proofs.Common.{◌≡◌, ◌*◌, length, take, FillSlots, run_bytes}
use Rattle.ss_journal.proofs.writing.run_bytes.Given as goal

abbrev pub invariant-loop-put : goal.invariant-loop-put
invariant-loop-put l = record {
  value : l.bytes.items ≡ run_bytes l.kind (take l.put-index l.run);
  size : length l.bytes.items ≡ 128 * l.put-index;
  whole : FillSlots (take l.put-index l.run);
}
