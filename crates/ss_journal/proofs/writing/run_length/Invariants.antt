use Rattle.ss_journal.proofs.Common.{◌≡◌, ◌+◌, ◌≤◌, drop, run_length}
use Rattle.ss_journal.proofs.writing.run_length.Given as goal

abbrev pub invariant-loop-put : goal.invariant-loop-put
invariant-loop-put l = record {
  value : run_length l.slot l.puts ≡ l.count + run_length (l.slot + l.count) (drop l.put-index l.puts);
  few : l.count ≤ 32;
}
