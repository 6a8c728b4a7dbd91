use Rattle.ss_store.proofs.Common.{◌∙◌, Ok, arith, refl, suc, add-one, err_from_is_err_and, step-as, step-none, after-step, step-next}
use Rattle.std.proofs.lemmas.List.{take_all}
use Rattle.ss_stream.proofs.Costs.{StagesAtCost-answers, StagesAtCost-none, StagesAtCost-then}
use Rattle.ss_store.proofs.Clearings.{AreSomeLive-next, LiveSlotsGo-more, StagesClearing-all, StagesClearing-failed, StagesFirst-more, StagesFirst-none}
use Rattle.ss_store.proofs.clearing.stage_clearing.Goals as goal

pub loop-slot-init : goal.loop-slot-init
loop-slot-init g c = record {
  step = step-none (g.D.Disk.seen c.args.disk.now) _ (λ told.
      let knows = g.met.D.Disk.knows_now c.args.disk.now told in
      StagesAtCost-none (Ok tt) knows refl (c.requires.one_disk told) (StagesFirst-none c.args.doomed.now c.args.records.now _ knows));
  settled = c.requires.settled;
  live = λ others is. is;
  extent = refl;
}

pub stage_zeros-requires-clause-live : goal.stage_zeros-requires-clause-live
stage_zeros-requires-clause-live g c =
    AreSomeLive-next c.loop-slot.slot-index c.args.doomed.now c.args.records.now.live c.loop-slot.records.live c.loop-slot-test.true c.requires.live
    c.loop-slot.invariant.live

pub stage_zeros-requires-clause-one_disk : goal.stage_zeros-requires-clause-one_disk
stage_zeros-requires-clause-one_disk g c = after-step c.loop-slot.invariant.step (λ told has. has.kept)

pub loop-slot-preserved : goal.loop-slot-preserved
loop-slot-preserved g c =
    let slots = c.args.doomed.now in
    let before = c.loop-slot.invariant in
    let after = c.in_ok-stage_zeros.ensures in
    record {
      step = step-next before.step after.changes (λ told then first second.
          let knows = g.met.D.Disk.knows_now c.loop-slot.disk then in
          StagesAtCost-then {first = 0} {second = 0} {less = 1} (Ok tt) knows (omega arith) (omega arith) (omega arith) first second (λ one two.
          rw add-one
          (StagesFirst-more c.loop-slot.slot-index slots c.args.records.now c.loop-slot.records c.stage_zeros.new.records _ _ _ tt (Ok tt)
          c.loop-slot-test.true knows one two)));
      settled = after.settled;
      live = rw add-one
          (LiveSlotsGo-more c.loop-slot.slot-index slots c.args.records.now.live c.loop-slot.records.live c.stage_zeros.new.records.live
          c.loop-slot-test.true before.live after.live);
      extent = after.extent ∙ before.extent;
    }

pub returns-in_err-stage_zeros-clause-clears : goal.returns-in_err-stage_zeros-clause-clears
returns-in_err-stage_zeros-clause-clears g c =
    let slots = c.args.doomed.now in
    let p = err_from_is_err_and c.from_residual.result c.from_residual.ensures.1 in
    rw (p.1, p.2)
    (step-next c.loop-slot.invariant.step c.in_err-stage_zeros.ensures.changes (λ told then first second.
    let knows = g.met.D.Disk.knows_now c.loop-slot.disk then in
    StagesAtCost-then {first = 0} {second = 0} {less = 1} _ knows (omega arith) (omega arith) (omega (arith, c.loop-slot-test.true)) first second (λ one two.
    StagesClearing-failed (suc c.loop-slot.slot-index) slots c.args.records.now c.stage_zeros.new.records c.stage_zeros.new.records _ _ _ _ refl
    (StagesFirst-more c.loop-slot.slot-index slots c.args.records.now c.loop-slot.records c.stage_zeros.new.records _ _ _ tt _
    c.loop-slot-test.true knows one two))))

pub returns-clause-clears : goal.returns-clause-clears
returns-clause-clears g c =
    step-as c.loop-slot.invariant.step (λ made.
    StagesAtCost-answers _ (omega arith) (omega arith) made
    (StagesClearing-all _ c.args.doomed.now c.args.records.now c.loop-slot.records _ _ _ (omega arith)))

pub returns-clause-live : goal.returns-clause-live
returns-clause-live g c = rw (take_all c.loop-slot.slot-index c.args.doomed.now (omega arith)) at c.loop-slot.invariant.live
