use Rattle.ss_stream.proofs.Common.{Some, [], ap, ap₂, arith, refl, ◌∷◌, ◌≡◌, ◌≤◌, ◌∙◌, err_from_is_err_and, extent_after, step-from}
use Rattle.ss_stream.proofs.Common.{live_after, HasRecords, record_put}
use Rattle.ss_journal.specs.Kept.{IsRunning}
use Rattle.ss_stream.proofs.writing.stage_record.Goals as goal
use Rattle.ss_stream.proofs.Changes.{LiveSlotsGo-added, extent_after-next, moves-added}
use Rattle.ss_stream.proofs.Costs.{StagesAtCost-no_room, StagesAtCost-staged}
use Rattle.ss_stream.proofs.LiveSlots.{lowest_free-is_free}
use Rattle.ss_stream.proofs.ShownCalls.{TurnsShown-failed, TurnsShown-keeps, TurnsShown-staged}

pub returns-in_err-make_room-clause-stages : goal.returns-in_err-make_room-clause-stages
returns-in_err-make_room-clause-stages g c =
    let p = err_from_is_err_and c.from_residual.result c.from_residual.ensures.1 in
    rw (p.1, p.2)
    (step-from c.in_err-make_room.ensures.makes_room (λ told made.
    StagesAtCost-no_room c.make_room.new.self _ refl (c.requires.one_disk told) made.keeps_shown (c.in_err-make_room.ensures.syncs.told told)
    (λ free. ap (λ d. (g.D.Disk.seen d).told.syncs) (c.make_room.ensures.idle free).0)
    (λ others.
    TurnsShown-failed c.args.records.now c.make_room.new.self c.make_room.new.self (HasRecords others) (HasRecords others) (HasRecords others)
    (HasRecords ((c.args.slot, Some c.args.written.now) ∷ others)) _ _ _ _ refl
    (TurnsShown-keeps c.args.records.now c.make_room.new.self others _ _ _ (c.requires.one_disk told) made.keeps_shown))))

pub returns-clause-stages : goal.returns-clause-stages
returns-clause-stages g c =
    let slot = c.args.slot in
    let between = c.make_room.new.self in
    let lowest : c.lowest_free.result ≡ Some slot = c.lowest_free.ensures.least ∙ c.requires.free in
    let running : IsRunning c.args.records.now.journal = λ stopped. absurd (cc) in
    let below = rw lowest at c.lowest_free.ensures.few in
    let within = rw lowest at c.lowest_free.ensures.fits running in
    let inside : slot ≤ between.journal.extent = omega (arith, within, c.in_ok-make_room.ensures.made.extent) in
    let free = (lowest_free-is_free c.args.records.now.live slot c.requires.free).1 in
    let made_extent = c.in_ok-make_room.ensures.made.extent in
    let staged = c.stage.ensures.staged.extent ∙ ap (λ l. extent_after l between.journal.extent) c.put_of.ensures in
    let next = extent_after-next (record_put slot c.args.written.now) between.journal.extent in
    step-from c.in_ok-make_room.ensures.makes_room (λ told made.
    let stages = c.stage.ensures.stages _ in
    StagesAtCost-staged c.make_room.new.self _ (c.requires.one_disk told) (stages.kept made.kept) (omega (arith, staged, next, made_extent)) made.keeps_shown
    (c.in_ok-make_room.ensures.syncs.told told) (λ free. ap (λ d. (g.D.Disk.seen d).told.syncs) (c.make_room.ensures.idle free).0)
    c.in_ok-make_room.ensures.made.in_use c.stage.ensures.staged.in_use
    (λ others.
    TurnsShown-staged c.args.records.now between others _ _ c.stage.new.self ((slot, Some c.args.written.now) ∷ others)
    (record_put slot c.args.written.now ∷ []) c.in_ok-make_room.field-0 _ made.kept (rw c.put_of.ensures at stages)
    (moves-added slot c.args.written.now c.requires.valid c.requires.some between _ others made.kept below.0 inside
    (rw c.make_room.ensures.live free))
    (TurnsShown-keeps c.args.records.now between others _ _ _ (c.requires.one_disk told) made.keeps_shown)))

pub returns-clause-live : goal.returns-clause-live
returns-clause-live g c =
    let slot = c.args.slot in
    let live = c.args.records.now.live in
    let free = lowest_free-is_free live slot c.requires.free in
    let is : c.stage.new.self.live ≡ live_after (record_put slot c.args.written.now ∷ []) live =
    c.stage.ensures.live ∙ ap₂ live_after c.put_of.ensures c.make_room.ensures.live in
    rw is (LiveSlotsGo-added slot c.args.written.now c.requires.valid c.requires.some live free.0 free.1)
