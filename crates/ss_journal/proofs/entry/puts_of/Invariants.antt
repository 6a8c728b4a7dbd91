use Rattle.ss_journal.proofs.Common.{◌≡◌, map, range_with_len, put_at}
use Rattle.ss_journal.proofs.entry.puts_of.Given as goal

abbrev pub invariant-loop-k : goal.invariant-loop-k
invariant-loop-k l = l.puts.items ≡ map (put_at l.entry) (range_with_len 0 l.k)
