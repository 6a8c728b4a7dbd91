use Rattle.std.proofs.Common.{◌+◌, arith, refl}
use Rattle.std.proofs.lemmas.Result.{err_from_is_err_and}
use Rattle.ss_line.specs.Line.{index_of, place_at}
use Rattle.ss_query.proofs.AskedWindows.{IsAsking-more, IsAsking-none, all-look, asking-at, changed-window, failed-look, late-look}
use Rattle.ss_query.proofs.Looks.{begun_by-near, begun_by-next}
use Rattle.ss_query.proofs.MarkedTallies.{IsFewMarked-in}
use Rattle.ss_query.proofs.NextWindow.{Contains-slot, StandsIn-here, left_from-less, slot-here}
use Rattle.ss_query.proofs.walking.see_from.Goals as goal

pub loop-next-init : goal.loop-next-init
loop-next-init g c = record {
  asking = rw c.nothing_seen-seen.ensures (IsAsking-none (g.D.Disk.seen c.args.disk.now) c.args.records.now c.args.part.now c.args.query.now c.args.start
      c.requires.begins c.requires.one_disk);
  looks = omega arith;
  reads = omega arith;
  searches = omega arith;
}

pub get-entry-requires : goal.get-entry-requires
get-entry-requires g c =
    let asking = asking-at c.in-Some.is c.loop-next.invariant.asking in
    StandsIn-here c.len-len.ensures.line asking.line

pub returns-then-query-entry-clause-sees : goal.returns-then-query-entry-clause-sees
returns-then-query-entry-clause-sees g c =
    let asking = asking-at c.in-Some.is c.loop-next.invariant.asking in
    late-look c.args.query.now c.len-len.ensures.line asking c.get-entry.ensures.entry c.if-query-entry.true

pub see_entry-requires-clause-slot : goal.see_entry-requires-clause-slot
see_entry-requires-clause-slot g c =
    let asking = asking-at c.in-Some.is c.loop-next.invariant.asking in
    slot-here c.len-len.ensures.line asking.line c.get-entry.ensures.entry c.requires.slots

pub returns-in_err-seen-clause-sees : goal.returns-in_err-seen-clause-sees
returns-in_err-seen-clause-sees g c =
    let asking = asking-at c.in-Some.is c.loop-next.invariant.asking in
    let p = err_from_is_err_and c.from_residual.result c.from_residual.ensures.1 in
    rw (p.1, p.2)
    (failed-look c.args.query.now c.len-len.ensures.line asking c.get-entry.ensures.entry c.in_err-seen.field-0.0
    c.in_err-seen.ensures.sees)

pub returns-in_err-seen-clause-changed : goal.returns-in_err-seen-clause-changed
returns-in_err-seen-clause-changed g c =
    let p = err_from_is_err_and c.from_residual.result c.from_residual.ensures.1 in
    rw (p.1, p.2)
    (changed-window c.in_err-seen.field-0.0 c.get-entry.result.slot _ c.in_err-seen.ensures.changed
    (Contains-slot c.args.part.now c.in-Some.at c.get-entry.result c.get-entry.ensures.entry))

pub neighbours-next-requires : goal.neighbours-next-requires
neighbours-next-requires g c =
    let asking = asking-at c.in-Some.is c.loop-next.invariant.asking in
    StandsIn-here c.len-len.ensures.line asking.line

pub loop-next-smaller : goal.loop-next-smaller
loop-next-smaller g c =
    let asking = asking-at c.in-Some.is c.loop-next.invariant.asking in
    rw c.in-Some.is
    (left_from-less c.len-len.ensures.line asking.line c.get-entry.ensures.entry c.neighbours-next.result.1 c.neighbours-next.ensures.behind)

pub loop-next-preserved : goal.loop-next-preserved
loop-next-preserved g c =
    let asking = asking-at c.in-Some.is c.loop-next.invariant.asking in
    let fewer = begun_by-next c.len-len.ensures.line asking.line c.get-entry.ensures.entry c.if-query-entry.false c.neighbours-next.result.1
    c.neighbours-next.ensures.behind in
    let so_far = rw c.in-Some.is at c.loop-next.invariant.looks in
    let one = c.get-entry.ensures.look in
    let two = c.neighbours-next.ensures.look in
    let read_so_far = rw c.in-Some.is at c.loop-next.invariant.reads in
    let read = c.in_ok-seen.ensures.few.0 in
    record {
      asking = IsAsking-more c.args.query.now c.len-len.ensures.line asking c.get-entry.ensures.entry _ c.in_ok-seen.ensures.sees
          c.in_ok-seen.ensures.room c.in_ok-seen.ensures.cuts c.in_ok-seen.ensures.records c.neighbours-next.result.1 c.neighbours-next.ensures.behind;
      looks = omega (arith, fewer, so_far, one, two);
      reads = omega (arith, fewer, read_so_far, read);
      searches = omega (arith, c.loop-next.invariant.searches, c.in_ok-seen.ensures.few.1);
    }

pub returns-then-query-entry-clause-marked : goal.returns-then-query-entry-clause-marked
returns-then-query-entry-clause-marked g c =
    let line = c.loop-next.invariant.asking.line in
    rw line.marked (IsFewMarked-in c.args.part.now.landmarks c.args.query.now.from c.args.query.now.to c.count-known.ensures.state)

pub returns-clause-marked : goal.returns-clause-marked
returns-clause-marked g c =
    let line = c.loop-next.invariant.asking.line in
    rw line.marked (IsFewMarked-in c.args.part.now.landmarks c.args.query.now.from c.args.query.now.to c.count-known.ensures.state)

pub returns-then-query-entry-clause-cuts : goal.returns-then-query-entry-clause-cuts
returns-then-query-entry-clause-cuts g c = c.loop-next.invariant.asking.line.cuts

pub returns-clause-cuts : goal.returns-clause-cuts
returns-clause-cuts g c = c.loop-next.invariant.asking.line.cuts

pub returns-clause-sees : goal.returns-clause-sees
returns-clause-sees g c = all-look c.args.query.now (asking-at c.in_default.is c.loop-next.invariant.asking)

pub returns-then-query-entry-clause-few : goal.returns-then-query-entry-clause-few
returns-then-query-entry-clause-few g c = λ near.
    let few = begun_by-near c.args.part.now.line c.args.query.now.from c.args.query.now.to c.args.start c.len-len.ensures.line near in
    (omega (arith, few, c.loop-next.invariant.looks, c.get-entry.ensures.look), omega (arith, few, c.loop-next.invariant.reads))

pub returns-in_err-seen-clause-few : goal.returns-in_err-seen-clause-few
returns-in_err-seen-clause-few g c = λ near.
    let asking = asking-at c.in-Some.is c.loop-next.invariant.asking in
    let some = begun_by-next c.len-len.ensures.line asking.line c.get-entry.ensures.entry c.if-query-entry.false
    (place_at c.args.part.now.line.entries (index_of c.args.part.now.line.entries c.in-Some.at + 1)) refl in
    let so_far = rw c.in-Some.is at c.loop-next.invariant.reads in
    let few = begun_by-near c.args.part.now.line c.args.query.now.from c.args.query.now.to c.args.start c.len-len.ensures.line near in (
      omega (arith, few, c.loop-next.invariant.looks, c.get-entry.ensures.look),
      omega (arith, few, some, so_far, c.in_err-seen.ensures.few.0),
    )

pub returns-clause-few : goal.returns-clause-few
returns-clause-few g c = λ near.
    let few = begun_by-near c.args.part.now.line c.args.query.now.from c.args.query.now.to c.args.start c.len-len.ensures.line near in
    (omega (arith, few, c.loop-next.invariant.looks), omega (arith, few, c.loop-next.invariant.reads))
