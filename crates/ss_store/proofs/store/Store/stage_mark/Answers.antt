use Rattle.ss_stream.proofs.Costs.{StagesAtCost-answers, StagesAtCost-failed, StagesAtCost-none}
use Rattle.ss_store.proofs.Common.{◌≡◌, ap, arith, false, refl, true, LineState, event_of}
use Rattle.ss_store.proofs.Applying.{Applies-refused, Applies-starved}
use Rattle.ss_store.proofs.IndexedStreams.{AreScheduled-other, parts-set, stored}
use Rattle.ss_store.proofs.MarkTaking.{IsTakingMark, applies-marked, applies-unmarked, can-mark, same-unmarked, taking-mark}
use Rattle.ss_store.proofs.Taking.{inside, live-spared, same-spared, sound-spared, sound-stopped, sound-taken, stands-spared}
use Rattle.ss_store.proofs.store.Store.stage_mark.Goals as goal
use Rattle.ss_store.proofs.store.Store.stage_mark.Goals.{After-reserve}

pub returns-in-Err-clause-applies : goal.returns-in-Err-clause-applies
returns-in-Err-clause-applies g c =
    Applies-refused (event_of c.args.name.now c.args.t c.args.what) c.args.self.now _ c.in-Err.refusal c.in-Err.ensures.refused (λ run. c.requires.one_disk)
    (g.met.D.Disk.knows_now c.args.disk.now)

-- what is known once there is room
taken : (g : _) (c : goal.After-reserve g) →
    IsTakingMark (stored c.self.inside.streams.items c.self.inside.records c.self.inside.stopped) c.self.inside.catalog c.args.name.now c.args.t c.args.what
    c.in-Ok.marker.0 c.in-Ok.marker.1 c.index_mut-stream.result.now.part c.reserve.new.landmarks (g.D.Disk.seen c.args.disk.now)
taken g c =
    taking-mark c.self.inside.streams.items (g.D.Disk.seen c.args.disk.now) c.self.view_is c.requires.one_disk c.self.invariant.0 c.requires.runs
    c.in-Ok.ensures.marker c.in-Ok.ensures.accepted c.requires.in_time c.requires.marked c.index_mut-stream.ensures.value c.reserve.ensures.grown

pub invariant_of-self : goal.invariant_of-self
invariant_of-self g c =
    let it = taken g (goal.at.invariant_of-self g c).After-reserve in (
      rw parts-set (sound-spared it.is),
      λ run. AreScheduled-other c.self.inside.streams.items c.in-Ok.marker.0 _ (c.self.invariant.1 run) (inside it.is)
          c.index_mut-stream.ensures.value refl refl refl,
    )

pub returns-in-Err-reserve-clause-applies : goal.returns-in-Err-reserve-clause-applies
returns-in-Err-reserve-clause-applies g c =
    let it = taken g (goal.at.returns-in-Err-reserve-clause-applies g c).After-reserve in
    rw (← c.self.view_is, parts-set)
    (Applies-starved (event_of c.args.name.now c.args.t c.args.what) _ _ it.is.takes.none _ (same-spared it.is) (stands-spared it.is)
    (g.met.D.Disk.knows_now c.args.disk.now))

pub put_mark-requires-clause-can : goal.put_mark-requires-clause-can
put_mark-requires-clause-can g c =
    can-mark (taken g (goal.at.put_mark-requires-clause-can g c).After-reserve) c.in-Ok-reserve.ensures.room c.in-Ok-reserve.ensures.value_room

pub put_mark-requires-clause-live : goal.put_mark-requires-clause-live
put_mark-requires-clause-live g c = live-spared (taken g (goal.at.put_mark-requires-clause-live g c).After-reserve).is

pub invariant_of-self-in-Ok-put_mark : goal.invariant_of-self-in-Ok-put_mark
invariant_of-self-in-Ok-put_mark g c =
    let it = taken g (goal.at.invariant_of-self-in-Ok-put_mark g c).After-reserve in
    let same = c.put_mark.ensures.same in
    let done = c.in-Ok-put_mark.ensures in (
      rw parts-set (sound-taken it.is c.put_mark.new.self.part c.put_mark.new.records same.id same.name done.whole (done.taken.known, done.taken.last)),
      λ run. AreScheduled-other c.self.inside.streams.items c.in-Ok.marker.0 c.put_mark.new.self (c.self.invariant.1 run) (inside it.is)
          c.index_mut-stream.ensures.value same.target (ap (λ (l : LineState). l.entries) same.line) c.put_mark.ensures.index,
    )

pub invariant_of-self-in-Err-put_mark : goal.invariant_of-self-in-Err-put_mark
invariant_of-self-in-Err-put_mark g c =
    let it = taken g (goal.at.invariant_of-self-in-Err-put_mark g c).After-reserve in
    let same = c.put_mark.ensures.same in (
      rw parts-set (sound-stopped it.is c.put_mark.new.self.part c.put_mark.new.records same.id same.name),
      λ run. let wrong : true ≡ false = run in absurd (cc),
    )

pub returns-in-Ok-put_mark-clause-applies : goal.returns-in-Ok-put_mark-clause-applies
returns-in-Ok-put_mark-clause-applies g c =
    let it = taken g (goal.at.returns-in-Ok-put_mark-clause-applies g c).After-reserve in
    let done = c.in-Ok-put_mark.ensures in
    rw (← c.self.view_is, parts-set)
    (applies-marked it c.put_mark.new.self.part c.put_mark.new.records c.put_mark.ensures.same c.put_mark.ensures.fits _ _ _ _ done.whole done.takes
    c.values_held.ensures.value c.len.ensures.value)

pub returns-in-Err-put_mark-clause-applies : goal.returns-in-Err-put_mark-clause-applies
returns-in-Err-put_mark-clause-applies g c =
    let it = taken g (goal.at.returns-in-Err-put_mark-clause-applies g c).After-reserve in
    rw (← c.self.view_is, parts-set)
    (applies-unmarked it c.put_mark.new.self.part c.put_mark.new.records c.put_mark.ensures.same c.put_mark.ensures.fits _ _
    c.in-Err-put_mark.ensures.takes)

pub returns-in-Err-put_mark-clause-failed : goal.returns-in-Err-put_mark-clause-failed
returns-in-Err-put_mark-clause-failed g c =
    let it = taken g (goal.at.returns-in-Err-put_mark-clause-failed g c).After-reserve in
    rw (← c.self.view_is, parts-set)
    (same-unmarked it c.put_mark.new.self.part c.put_mark.new.records c.put_mark.ensures.same c.put_mark.ensures.fits c.in-Err-put_mark.ensures.err)

pub returns-in-Err-clause-costs : goal.returns-in-Err-clause-costs
returns-in-Err-clause-costs g c told = StagesAtCost-none _ (g.met.D.Disk.knows_now c.args.disk.now told) tt tt tt

pub returns-in-Err-reserve-clause-costs : goal.returns-in-Err-reserve-clause-costs
returns-in-Err-reserve-clause-costs g c told = StagesAtCost-none _ (g.met.D.Disk.knows_now c.args.disk.now told) tt tt tt

pub returns-in-Ok-put_mark-clause-costs : goal.returns-in-Ok-put_mark-clause-costs
returns-in-Ok-put_mark-clause-costs g c told =
    let it = taken g (goal.at.returns-in-Ok-put_mark-clause-costs g c).After-reserve in
    rw (← c.self.view_is) (StagesAtCost-answers _ it.marker.low (omega arith) (c.in-Ok-put_mark.ensures.takes.told told) (λ takes. tt))

pub returns-in-Err-put_mark-clause-costs : goal.returns-in-Err-put_mark-clause-costs
returns-in-Err-put_mark-clause-costs g c told =
    let it = taken g (goal.at.returns-in-Err-put_mark-clause-costs g c).After-reserve in
    rw (← c.self.view_is) (StagesAtCost-failed _ refl it.marker.low (omega arith) (c.in-Err-put_mark.ensures.takes.told told) (λ takes. tt))
