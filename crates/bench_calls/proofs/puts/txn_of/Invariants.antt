use Rattle.std.proofs.Common.{◌≡◌}
use Rattle.bench_calls.specs.Puts.{puts_from}
use Rattle.bench_calls.proofs.puts.txn_of.Given as goal

abbrev pub invariant-loop-k : goal.invariant-loop-k
invariant-loop-k l = l.txn.items ≡ puts_from l.first l.k l.byte
