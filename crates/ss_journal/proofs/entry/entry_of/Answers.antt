use Rattle.ss_journal.proofs.Common.{[], arith, length, ◌∙◌, ◌≡◌, All-more, Put}
use Rattle.ss_journal.proofs.EntryLemmas.{entry-more, entry-all}
use Rattle.ss_journal.proofs.entry.entry_of.Goals as goal

pub loop-k-preserved : goal.loop-k-preserved
loop-k-preserved c =
    let puts = c.args.puts.now in
    let d : Put = record { slot = 0; bytes = [] } in
    record {
      entry = c.write_put.ensures.written ∙ entry-more puts c.loop-k.k d c.loop-k.entry c.loop-k-test.true c.requires c.loop-k.invariant.whole
          c.loop-k.invariant.entry;
      whole = All-more (λ (p : Put). length p.bytes ≡ 128) puts c.loop-k.k d c.loop-k-test.true c.loop-k.invariant.whole c.write_put.ensures.whole;
    }

pub returns-clause-value : goal.returns-clause-value
returns-clause-value c =
    let puts = c.args.puts.now in
    let all : c.loop-k.k ≡ length puts = omega arith in
    entry-all puts c.loop-k.entry (rw all at c.loop-k.invariant.entry)
