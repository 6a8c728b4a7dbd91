use Rattle.ss_journal.proofs.Common.{◌+◌, ◌-◌, ◌≡◌, [], arith, suc, sym, Put}
use Rattle.std.proofs.Common.{◌/◌, add-one}
use Rattle.ss_journal.proofs.NewestLemmas.{below-place, from-place}
use Rattle.ss_journal.proofs.newest.count_below.Goals as goal

pub loop-low-preserved : goal.loop-low-preserved
loop-low-preserved c =
    let middle = c.loop-low.low + (c.loop-low.high - c.loop-low.low) / 2 in
    let d : Put = record { slot = 0; bytes = [] } in
    record {
      ordered = omega arith;
      within = omega arith;
      below = c.loop-low.invariant.below;
      from = from-place 0 c.args.puts.now middle c.args.slot d c.requires.rise (omega arith) c.if-puts-middle.false;
    }

pub loop-low-preserved-then-puts-middle : goal.loop-low-preserved-then-puts-middle
loop-low-preserved-then-puts-middle c =
    let middle = c.loop-low.low + (c.loop-low.high - c.loop-low.low) / 2 in
    let d : Put = record { slot = 0; bytes = [] } in
    let next : suc middle ≡ middle + 1 = sym (add-one middle) in
    record {
      ordered = omega arith;
      within = c.loop-low.invariant.within;
      below = rw next at (below-place 0 c.args.puts.now middle c.args.slot d c.requires.rise (omega arith) c.if-puts-middle.true);
      from = c.loop-low.invariant.from;
    }
