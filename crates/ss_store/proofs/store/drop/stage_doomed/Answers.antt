use Rattle.ss_stream.proofs.Costs.{StagesAtCost-failed, StagesAtCost-then}
use Rattle.ss_store.proofs.Common.{◌≡◌, ◌∙◌, arith, refl, sym, true, err_from_is_err_and, is_valid, after-step, step-from, step-next}
use Rattle.ss_store.proofs.Dropping.{TurnsShown-dropped, TurnsShown-undropped, own-live}
use Rattle.ss_store.proofs.store.drop.stage_doomed.Goals as goal

pub stage_replaced-requires-clause-some : goal.stage_replaced-requires-clause-some
stage_replaced-requires-clause-some g c = λ free. let wrong = sym c.dropped_record.ensures.value ∙ free in cc wrong

pub stage_replaced-requires-clause-live : goal.stage_replaced-requires-clause-live
stage_replaced-requires-clause-live g c =
    own-live c.args.part.now c.args.records.now.live (rw c.requires.slots at c.requires.live)

pub stage_clearing-requires-clause-live : goal.stage_clearing-requires-clause-live
stage_clearing-requires-clause-live g c = rw c.stage_replaced.ensures.live c.requires.live

pub stage_clearing-requires-clause-one_disk : goal.stage_clearing-requires-clause-one_disk
stage_clearing-requires-clause-one_disk g c = after-step c.in_ok-stage_replaced.ensures.stages (λ told made. made.kept)

pub returns-in_err-stage_replaced-clause-drops : goal.returns-in_err-stage_replaced-clause-drops
returns-in_err-stage_replaced-clause-drops g c =
    let p = err_from_is_err_and c.from_residual.result c.from_residual.ensures.1 in
    let valid : is_valid c.dropped_record.result ≡ true = c.dropped_record.ensures.valid in
    rw (p.1, p.2)
    (step-from c.in_err-stage_replaced.ensures.changes (λ told changes.
    StagesAtCost-failed _ refl (omega arith) (omega arith) (c.in_err-stage_replaced.ensures.stages.told told) (λ replaced others s streams.
    TurnsShown-undropped c.args.part.now others s streams (rw c.dropped_record.ensures.value at valid) c.args.records.now c.stage_replaced.new.records
    c.stage_replaced.new.records _ (g.D.Disk.seen c.stage_replaced.new.disk).told _ _ _ refl (rw c.dropped_record.ensures.value at changes))))

pub returns-clause-drops : goal.returns-clause-drops
returns-clause-drops g c =
    let valid : is_valid c.dropped_record.result ≡ true = c.dropped_record.ensures.valid in
    step-next c.in_ok-stage_replaced.ensures.changes c.stage_clearing.ensures.clears (λ told then changes cleared.
    let knows = g.met.D.Disk.knows_now c.stage_replaced.new.disk then in
    StagesAtCost-then {first = 0} {second = 0} {few = 1} _ knows (omega arith) (omega arith) (omega arith)
    (c.in_ok-stage_replaced.ensures.stages.told told) cleared (λ replaced clears others s streams.
    TurnsShown-dropped c.args.part.now others s streams (rw c.dropped_record.ensures.value at valid) c.args.records.now c.stage_replaced.new.records
    c.stage_clearing.new.records _ _ _ c.in_ok-stage_replaced.field-0 c.stage_clearing.result knows (rw c.dropped_record.ensures.value at changes)
    (rw c.requires.slots at clears)))

pub returns-clause-live : goal.returns-clause-live
returns-clause-live g c = rw (← c.stage_replaced.ensures.live) c.stage_clearing.ensures.live
