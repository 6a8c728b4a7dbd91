use Rattle.ss_journal.proofs.Common.{◌≡◌, length, ap, ◌∙◌, arith, length-map-range_with_len, map-range_with_len_more, put_at}
use Rattle.ss_journal.specs.Entries.{puts_of}
use Rattle.ss_journal.proofs.entry.puts_of.Goals as goal

pub push-requires : goal.push-requires
push-requires c =
    let long = ap length c.loop-k.invariant ∙ length-map-range_with_len (put_at c.args.entry.now) 0 c.loop-k.k in
    (omega arith, omega (arith, long))

pub loop-k-preserved : goal.loop-k-preserved
loop-k-preserved c =
    let more = map-range_with_len_more (put_at c.args.entry.now) 0 c.loop-k.k c.loop-k.k (omega arith) in
    cc

pub returns : goal.returns
unfolding puts_of
returns c =
    let all : c.loop-k.k ≡ c.from-k-end.result = omega arith in
    cc
