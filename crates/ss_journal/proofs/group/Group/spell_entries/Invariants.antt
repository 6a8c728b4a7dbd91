use Rattle.ss_journal.proofs.Common.{◌≡◌, ◌*◌, length, group_bytes}
use Rattle.ss_journal.proofs.group.Group.spell_entries.Given as goal

abbrev pub invariant-loop-k : goal.invariant-loop-k
invariant-loop-k l = record {
  value : l.self ≡ group_bytes l.kind l.n l.k l.puts;
  size : length l.self ≡ 544 * l.k;
}
