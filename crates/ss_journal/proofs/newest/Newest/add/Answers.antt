use Rattle.ss_journal.proofs.Common.{◌≡◌, get_or, List, [], ap, arith, length, take_all, All-more, newest_after, Put}
use Rattle.std.proofs.lemmas.List.{at_drop_more}
use Rattle.ss_journal.proofs.NewestLemmas.{few-with_newest}
use Rattle.ss_journal.proofs.newest.Newest.add.Goals as goal

pub loop-put-preserved : goal.loop-put-preserved
loop-put-preserved c =
    let d : Put = record { slot = 0; bytes = [] } in
    let puts = c.args.puts.now in
    let k = c.loop-put.put-index in
    let put = get_or puts k d in
    let held = c.loop-put.self in
    let more = few-with_newest put held in
    let grown = ap (λ (list : List Put). length list) c.put.ensures.kept in
    record {
      kept = rw (c.put.ensures.kept, ← at_drop_more (λ (list : List Put). newest_after list held) puts k d c.loop-put-test.true, c.loop-put.invariant.kept);
      few = omega (arith, more, grown, c.loop-put.invariant.few);
      whole = All-more (λ (p : Put). length p.bytes ≡ 128) puts k d c.loop-put-test.true c.loop-put.invariant.whole c.put.ensures.whole;
    }

pub returns-clause-whole : goal.returns-clause-whole
returns-clause-whole c = rw (take_all c.loop-put.put-index c.args.puts.now c.loop-put-test.false) at c.loop-put.invariant.whole
