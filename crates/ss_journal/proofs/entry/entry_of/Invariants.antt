use Rattle.ss_journal.proofs.Common.{◌≡◌, ◌-◌, ◌*◌, ◌∷◌, ◌++◌, length, take, replicate, flat_map, put_bytes, FillSlots}
use Rattle.ss_journal.proofs.entry.entry_of.Given as goal

abbrev pub invariant-loop-k : goal.invariant-loop-k
invariant-loop-k l = record {
  entry : l.entry ≡ 0 ∷ length l.puts ∷ flat_map put_bytes (take l.k l.puts) ++ replicate (542 - 132 * l.k) 0;
  whole : FillSlots (take l.k l.puts);
}
