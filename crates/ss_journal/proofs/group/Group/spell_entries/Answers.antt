use Rattle.ss_journal.proofs.Common.{arith}
use Rattle.ss_journal.proofs.GroupLemmas.{group_bytes-more}
use Rattle.ss_journal.proofs.group.Group.spell_entries.Goals as goal

pub loop-k-preserved : goal.loop-k-preserved
loop-k-preserved c =
    let kind = c.args.kind in
    let n = c.args.n in
    let k = c.loop-k.k in
    let puts = c.args.puts.now in
    record {
      value = rw (c.add_entry.ensures.value, c.loop-k.invariant.value, c.part.ensures, group_bytes-more);
      size = omega (arith, c.add_entry.ensures.size, c.loop-k.invariant.size);
    }
