use Rattle.ss_stream.proofs.Common.{List, Option, Some, [], ap₂, arith, refl, ◌∷◌, ◌<◌, ◌∙◌, ℕ, ap, err_from_is_err_and}
use Rattle.ss_stream.proofs.Common.{extent_after, StandsFor, changed, MOST_SLOTS, live_after, Record, step-from, HasRecords, record_put}
use Rattle.ss_stream.proofs.writing.stage_replaced.Goals as goal
use Rattle.ss_stream.proofs.Changes.{IsTxn-one, extent_after-one, live_after-again, moves-replaced, slots_fit-one}
use Rattle.ss_stream.proofs.Costs.{StagesAtCost-no_room, StagesAtCost-staged}
use Rattle.ss_stream.proofs.LiveSlots.{IsOneLive-permutation}
use Rattle.ss_stream.proofs.ShownCalls.{StandsFor-of_map, TurnsShown-changed, TurnsShown-failed, TurnsShown-kept, TurnsShown-keeps, TurnsShown-staged}

pub stage-requires-clause-txn : goal.stage-requires-clause-txn
stage-requires-clause-txn g c =
    let one = IsOneLive-permutation c.args.records.now.live c.args.slot c.requires.live.0 c.requires.live.1 in
    let below : c.args.slot < MOST_SLOTS = omega (arith, one.below, c.live.ensures.sound.slots) in
    rw c.put_of.ensures (IsTxn-one (record_put c.args.slot c.args.written.now) below)

pub stage-requires-clause-fit : goal.stage-requires-clause-fit
stage-requires-clause-fit g c =
    let one = IsOneLive-permutation c.args.records.now.live c.args.slot c.requires.live.0 c.requires.live.1 in
    let below = c.live.ensures.sound.below (λ stopped. absurd (cc)) in
    let extent = c.args.records.now.journal.extent in
    rw (c.in_ok-make_room.ensures.made.extent, c.put_of.ensures) (slots_fit-one (record_put c.args.slot c.args.written.now) extent (below c.args.slot one.is))

pub returns-clause-extent : goal.returns-clause-extent
returns-clause-extent g c =
    let extent = c.args.records.now.journal.extent in
    let one = IsOneLive-permutation c.args.records.now.live c.args.slot c.requires.live.0 c.requires.live.1 in
    let below = c.live.ensures.sound.below (λ stopped. absurd (cc)) in
    c.stage.ensures.staged.extent ∙ ap₂ extent_after c.put_of.ensures c.in_ok-make_room.ensures.made.extent
    ∙ extent_after-one (record_put c.args.slot c.args.written.now) extent (below c.args.slot one.is)

pub returns-in_err-make_room-clause-stages : goal.returns-in_err-make_room-clause-stages
returns-in_err-make_room-clause-stages g c =
    let p = err_from_is_err_and c.from_residual.result c.from_residual.ensures.1 in
    rw (p.1, p.2)
    (step-from c.in_err-make_room.ensures.makes_room (λ told made.
    StagesAtCost-no_room c.make_room.new.self _ refl (c.requires.one_disk told) made.keeps_shown (c.in_err-make_room.ensures.syncs.told told)
    (λ free. ap (λ d. (g.D.Disk.seen d).told.syncs) (c.make_room.ensures.idle free).0)
    (λ first others.
    let before : List (ℕ × Option Record) = (c.args.slot, first) ∷ others in
    TurnsShown-failed c.args.records.now c.make_room.new.self c.make_room.new.self (HasRecords before) (HasRecords before) (HasRecords before)
    (HasRecords ((c.args.slot, Some c.args.written.now) ∷ others)) _ _ _ _ refl
    (TurnsShown-keeps c.args.records.now c.make_room.new.self before _ _ _ (c.requires.one_disk told) made.keeps_shown))))

pub returns-clause-stages : goal.returns-clause-stages
returns-clause-stages g c =
    step-from c.in_ok-make_room.ensures.makes_room (λ told made.
    let stages = c.stage.ensures.stages _ in
    StagesAtCost-staged c.make_room.new.self _ (c.requires.one_disk told) (stages.kept made.kept) (omega (arith, returns-clause-extent g c)) made.keeps_shown
    (c.in_ok-make_room.ensures.syncs.told told) (λ free. ap (λ d. (g.D.Disk.seen d).told.syncs) (c.make_room.ensures.idle free).0)
    c.in_ok-make_room.ensures.made.in_use c.stage.ensures.staged.in_use
    (λ first others.
    let before : List (ℕ × Option Record) = (c.args.slot, first) ∷ others in
    TurnsShown-staged c.args.records.now c.make_room.new.self before _ _ c.stage.new.self ((c.args.slot, Some c.args.written.now) ∷ others)
    (record_put c.args.slot c.args.written.now ∷ []) c.in_ok-make_room.field-0 _ made.kept (rw c.put_of.ensures at stages)
    (λ found is moved. moves-replaced c.args.slot c.args.written.now c.requires.valid c.requires.some first others found moved)
    (TurnsShown-keeps c.args.records.now c.make_room.new.self before _ _ _ (c.requires.one_disk told) made.keeps_shown)))

pub returns-in_err-make_room-clause-changes : goal.returns-in_err-make_room-clause-changes
returns-in_err-make_room-clause-changes g c =
    let p = err_from_is_err_and c.from_residual.result c.from_residual.ensures.1 in
    rw (p.1, p.2)
    (step-from c.in_err-make_room.ensures.makes_room (λ told made found.
    let is = λ (image : List ℕ). StandsFor image found in
    TurnsShown-failed c.args.records.now c.make_room.new.self c.make_room.new.self is is is
    (λ image. StandsFor image (changed found (record_put c.args.slot c.args.written.now ∷ []))) _ _ _ _ refl
    (TurnsShown-kept c.args.records.now c.make_room.new.self is _ _ _ (StandsFor-of_map found) (c.requires.one_disk told) made.keeps_shown)))

pub returns-clause-changes : goal.returns-clause-changes
returns-clause-changes g c =
    step-from c.in_ok-make_room.ensures.makes_room (λ told made found.
    let mid = g.D.Disk.seen c.make_room.new.disk in
    let stages = c.stage.ensures.stages mid.told.content in
    TurnsShown-changed c.args.records.now c.make_room.new.self c.stage.new.self found _ _ (record_put c.args.slot c.args.written.now ∷ [])
    c.in_ok-make_room.field-0 _ (c.requires.one_disk told) made.kept (rw c.put_of.ensures at stages) made.keeps_shown)

pub returns-clause-live : goal.returns-clause-live
returns-clause-live g c =
    let live = c.args.records.now.live in
    let one = IsOneLive-permutation live c.args.slot c.requires.live.0 c.requires.live.1 in
    c.stage.ensures.live ∙ ap₂ live_after c.put_of.ensures c.make_room.ensures.live
    ∙ live_after-again c.args.slot c.args.written.now c.requires.valid c.requires.some live one.is
