use Rattle.std.proofs.Common.{◌≡◌}
use Rattle.ss_checksum.specs.Checksum.{after_bits}
use Rattle.ss_dump.proofs.summing.front_of.Given as goal

abbrev pub invariant-loop : goal.invariant-loop
invariant-loop l = after_bits l.counter l.word ≡ l.state
