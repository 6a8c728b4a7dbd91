use Rattle.ss_stream.proofs.Common.{List, Option, Some, ap₂, arith, refl, ◌∷◌, ◌<◌, ◌≡◌, ◌∙◌, ℕ, ap, err_from_is_err_and}
use Rattle.ss_stream.proofs.Common.{extent_after, MOST_SLOTS, live_after, Record, step-from, HasRecords, pair_put}
use Rattle.ss_stream.proofs.writing.stage_two.Goals as goal
use Rattle.ss_stream.proofs.ShownCalls.{TurnsShown-failed, TurnsShown-keeps, TurnsShown-staged}
use Rattle.ss_stream.proofs.Changes.{IsTxn-pair, LiveSlotsGo-paired, moves-paired, extent_after-pair, slots_fit-pair}
use Rattle.ss_stream.proofs.Costs.{StagesAtCost-no_room, StagesAtCost-staged}
use Rattle.ss_stream.proofs.LiveSlots.{AreTwoLive-some}

pub pair_of-requires-clause-apart : goal.pair_of-requires-clause-apart
pair_of-requires-clause-apart g c = (AreTwoLive-some c.args.records.now.live c.args.kept c.args.freed c.requires.live).apart

pub pair_of-requires-clause-kept : goal.pair_of-requires-clause-kept
pair_of-requires-clause-kept g c =
    let two = AreTwoLive-some c.args.records.now.live c.args.kept c.args.freed c.requires.live in
    omega (arith, two.kept_below, c.live.ensures.sound.slots)

pub pair_of-requires-clause-freed : goal.pair_of-requires-clause-freed
pair_of-requires-clause-freed g c =
    let two = AreTwoLive-some c.args.records.now.live c.args.kept c.args.freed c.requires.live in
    omega (arith, two.freed_below, c.live.ensures.sound.slots)

pub stage-requires-clause-txn : goal.stage-requires-clause-txn
stage-requires-clause-txn g c =
    let two = AreTwoLive-some c.args.records.now.live c.args.kept c.args.freed c.requires.live in
    let slots = c.live.ensures.sound.slots in
    let kept_below : c.args.kept < MOST_SLOTS = omega (arith, two.kept_below, slots) in
    let freed_below : c.args.freed < MOST_SLOTS = omega (arith, two.freed_below, slots) in
    rw c.pair_of.ensures (IsTxn-pair c.args.kept c.args.freed c.args.written.now two.apart kept_below freed_below)

pub stage-requires-clause-fit : goal.stage-requires-clause-fit
stage-requires-clause-fit g c =
    let two = AreTwoLive-some c.args.records.now.live c.args.kept c.args.freed c.requires.live in
    let below = c.live.ensures.sound.below (λ stopped. absurd (cc)) in
    let extent = c.args.records.now.journal.extent in
    rw (c.in_ok-make_room.ensures.made.extent, c.pair_of.ensures)
    (slots_fit-pair c.args.kept c.args.freed c.args.written.now extent (below c.args.kept two.kept_live) (below c.args.freed two.freed_live))

pub returns-clause-extent : goal.returns-clause-extent
returns-clause-extent g c =
    let extent = c.args.records.now.journal.extent in
    let two = AreTwoLive-some c.args.records.now.live c.args.kept c.args.freed c.requires.live in
    let below = c.live.ensures.sound.below (λ stopped. absurd (cc)) in
    c.stage.ensures.staged.extent ∙ ap₂ extent_after c.pair_of.ensures c.in_ok-make_room.ensures.made.extent
    ∙ extent_after-pair c.args.kept c.args.freed c.args.written.now extent (below c.args.kept two.kept_live) (below c.args.freed two.freed_live)

pub returns-in_err-make_room-clause-stages : goal.returns-in_err-make_room-clause-stages
returns-in_err-make_room-clause-stages g c =
    let p = err_from_is_err_and c.from_residual.result c.from_residual.ensures.1 in
    rw (p.1, p.2)
    (step-from c.in_err-make_room.ensures.makes_room (λ told made.
    StagesAtCost-no_room c.make_room.new.self _ refl (c.requires.one_disk told) made.keeps_shown (c.in_err-make_room.ensures.syncs.told told)
    (λ free. ap (λ d. (g.D.Disk.seen d).told.syncs) (c.make_room.ensures.idle free).0)
    (λ first gone others.
    let before : List (ℕ × Option Record) = (c.args.kept, first) ∷ (c.args.freed, gone) ∷ others in
    TurnsShown-failed c.args.records.now c.make_room.new.self c.make_room.new.self (HasRecords before) (HasRecords before) (HasRecords before)
    (HasRecords ((c.args.kept, Some c.args.written.now) ∷ others)) _ _ _ _ refl
    (TurnsShown-keeps c.args.records.now c.make_room.new.self before _ _ _ (c.requires.one_disk told) made.keeps_shown))))

pub returns-clause-stages : goal.returns-clause-stages
returns-clause-stages g c =
    step-from c.in_ok-make_room.ensures.makes_room (λ told made.
    let stages = c.stage.ensures.stages _ in
    StagesAtCost-staged c.make_room.new.self _ (c.requires.one_disk told) (stages.kept made.kept) (omega (arith, returns-clause-extent g c)) made.keeps_shown
    (c.in_ok-make_room.ensures.syncs.told told) (λ free. ap (λ d. (g.D.Disk.seen d).told.syncs) (c.make_room.ensures.idle free).0)
    c.in_ok-make_room.ensures.made.in_use c.stage.ensures.staged.in_use
    (λ first gone others.
    let before : List (ℕ × Option Record) = (c.args.kept, first) ∷ (c.args.freed, gone) ∷ others in
    TurnsShown-staged c.args.records.now c.make_room.new.self before _ _ c.stage.new.self ((c.args.kept, Some c.args.written.now) ∷ others)
    (pair_put c.args.kept c.args.freed c.args.written.now) c.in_ok-make_room.field-0 _ made.kept (rw c.pair_of.ensures at stages)
    (λ found is moved. moves-paired c.args.kept c.args.freed c.args.written.now c.requires.valid c.requires.some found first gone others moved)
    (TurnsShown-keeps c.args.records.now c.make_room.new.self before _ _ _ (c.requires.one_disk told) made.keeps_shown)))

pub returns-clause-live : goal.returns-clause-live
returns-clause-live g c =
    let kept = c.args.kept in
    let freed = c.args.freed in
    let live = c.args.records.now.live in
    let two = AreTwoLive-some live kept freed c.requires.live in
    let is : c.stage.new.self.live ≡ live_after (pair_put kept freed c.args.written.now) live =
    c.stage.ensures.live ∙ ap₂ live_after c.pair_of.ensures c.make_room.ensures.live in
    rw is (LiveSlotsGo-paired kept freed c.args.written.now c.requires.valid c.requires.some live two)
