use Rattle.ss_stream.proofs.Costs.{StagesAtCost-answers, StagesAtCost-failed, StagesAtCost-none}
use Rattle.ss_stream.proofs.KeyedWindows.{IsReservedFor-scheduled, IsScheduled-same}
use Rattle.ss_stream.proofs.Rising.{begin-by_last}
use Rattle.ss_store.proofs.Common.{◌≡◌, arith, refl, true, false, w64, ap, length, to_z-of_z, Value, All-set, IsScheduled}
use Rattle.ss_store.proofs.Applying.{Applies-refused, Applies-starved}
use Rattle.ss_store.proofs.IndexedStreams.{IsScheduled-at, parts-set, stored}
use Rattle.ss_store.proofs.Taking.{inside, live-spared, ordered-spared, same-spared, sound-spared, sound-stopped, sound-taken, stands-spared}
use Rattle.ss_store.proofs.ValueTaking.{IsTakingValue, applies-unvalued, applies-valued, can-append, few-records, few-taker, later-taker, marks-taken}
use Rattle.ss_store.proofs.ValueTaking.{taking-value}
use Rattle.ss_store.proofs.store.Store.stage_value.Goals as goal
use Rattle.ss_store.proofs.store.Store.stage_value.Goals.{After-reserve_window}

pub returns-in-Err-clause-applies : goal.returns-in-Err-clause-applies
returns-in-Err-clause-applies g c =
    Applies-refused (Value c.args.name.now c.args.t c.args.v) c.args.self.now _ c.in-Err.refusal (c.in-Err.ensures.refused c.args.v)
    (λ run. c.requires.one_disk)
    (g.met.D.Disk.knows_now c.args.disk.now)

pub reserve_window-requires : goal.reserve_window-requires
reserve_window-requires g c =
    let it = taking-value c.self.inside.streams.items
    {line = c.index_mut-stream.result.now.part.line} (g.D.Disk.seen c.args.disk.now) c.self.view_is c.requires.one_disk c.self.invariant.0 c.requires.runs
    c.in-Ok.ensures.taker (c.in-Ok.ensures.accepted c.args.v) (c.requires.in_time, c.ranges.v) c.index_mut-stream.ensures.value refl (omega arith) in
    let scheduled = IsScheduled-at c.self.inside.streams.items c.in-Ok.taker.0 (c.self.invariant.1 it.is.takes.runs) (inside it.is)
    c.index_mut-stream.ensures.value in
    record {
      few = few-taker it;
      later = rw scheduled.0.timed (begin-by_last c.index_mut-stream.result.now.part.last_time c.args.t c.index_mut-stream.result.now.part.line.entries
          (ordered-spared it.is).times (later-taker it));
    }

-- what is known once there is room
taken : (g : _) (c : goal.After-reserve_window g) →
    IsTakingValue (stored c.self.inside.streams.items c.self.inside.records c.self.inside.stopped) c.self.inside.catalog c.args.name.now c.args.t c.args.v
    c.in-Ok.taker.0 c.in-Ok.taker.1 c.index_mut-stream.result.now.part c.reserve_window.new.line (g.D.Disk.seen c.args.disk.now)
taken g c =
    taking-value c.self.inside.streams.items (g.D.Disk.seen c.args.disk.now) c.self.view_is c.requires.one_disk c.self.invariant.0 c.requires.runs
    c.in-Ok.ensures.taker (c.in-Ok.ensures.accepted c.args.v) (c.requires.in_time, c.ranges.v) c.index_mut-stream.ensures.value
    c.reserve_window.ensures.entries c.reserve_window.ensures.grows

pub invariant_of-self : goal.invariant_of-self
invariant_of-self g c =
    let it = taken g (goal.at.invariant_of-self g c).After-reserve_window in (
      rw parts-set (sound-spared it.is),
      λ run. All-set IsScheduled c.self.inside.streams.items c.in-Ok.taker.0 _
          (IsScheduled-same c.index_mut-stream.result.now _ refl c.reserve_window.ensures.entries c.reserve_window.ensures.target
          c.reserve_window.ensures.keyed c.in-Err-reserve_window.ensures.err
          (IsScheduled-at c.self.inside.streams.items c.in-Ok.taker.0 (c.self.invariant.1 run) (inside it.is) c.index_mut-stream.ensures.value))
          (c.self.invariant.1 run),
    )

pub returns-in-Err-reserve_window-clause-applies : goal.returns-in-Err-reserve_window-clause-applies
returns-in-Err-reserve_window-clause-applies g c =
    let it = taken g (goal.at.returns-in-Err-reserve_window-clause-applies g c).After-reserve_window in
    rw (← c.self.view_is, parts-set)
    (Applies-starved (Value c.args.name.now c.args.t c.args.v) _ _ it.is.takes.none _ (same-spared it.is) (stands-spared it.is)
    (g.met.D.Disk.knows_now c.args.disk.now))

pub append_value-requires-clause-can : goal.append_value-requires-clause-can
append_value-requires-clause-can g c =
    let it = taken g (goal.at.append_value-requires-clause-can g c).After-reserve_window in
    can-append it c.reserve_window.new.self c.in-Ok-reserve_window.ensures.spare
    (IsReservedFor-scheduled c.index_mut-stream.result.now _ c.args.t refl c.reserve_window.ensures.entries c.reserve_window.ensures.target
    c.reserve_window.ensures.keyed c.in-Ok-reserve_window.ensures.noted c.in-Ok-reserve_window.ensures.room
    (IsScheduled-at c.self.inside.streams.items c.in-Ok.taker.0 (c.self.invariant.1 it.is.takes.runs) (inside it.is) c.index_mut-stream.ensures.value))

pub append_value-requires-clause-live : goal.append_value-requires-clause-live
append_value-requires-clause-live g c = live-spared (taken g (goal.at.append_value-requires-clause-live g c).After-reserve_window).is

pub invariant_of-self-in-Ok-append_value : goal.invariant_of-self-in-Ok-append_value
invariant_of-self-in-Ok-append_value g c =
    let it = taken g (goal.at.invariant_of-self-in-Ok-append_value g c).After-reserve_window in
    let same = c.append_value.ensures.same in
    let done = c.in-Ok-append_value.ensures in (
      rw parts-set (sound-taken it.is c.append_value.new.self.part c.append_value.new.records same.id same.name done.stands.whole
          (marks-taken it c.append_value.new.self.part c.append_value.new.records same done.stands.holds.last_time)),
      λ run. All-set IsScheduled c.self.inside.streams.items c.in-Ok.taker.0 c.append_value.new.self (done.stands.keyed, done.none_due)
          (c.self.invariant.1 run),
    )

pub invariant_of-self-in-Err-append_value : goal.invariant_of-self-in-Err-append_value
invariant_of-self-in-Err-append_value g c =
    let it = taken g (goal.at.invariant_of-self-in-Err-append_value g c).After-reserve_window in
    let same = c.append_value.ensures.same in (
      rw parts-set (sound-stopped it.is c.append_value.new.self.part c.append_value.new.records same.id same.name),
      λ run. let wrong : true ≡ false = run in absurd (cc),
    )

pub returns-in-Ok-append_value-clause-applies : goal.returns-in-Ok-append_value-clause-applies
returns-in-Ok-append_value-clause-applies g c =
    let it = taken g (goal.at.returns-in-Ok-append_value-clause-applies g c).After-reserve_window in
    let done = c.in-Ok-append_value.ensures in
    rw (← c.self.view_is, parts-set)
    (applies-valued it c.append_value.new.self.part c.append_value.new.records c.append_value.ensures.same _ _ _ _ done.stands
    (rw (to_z-of_z w64 c.args.v c.ranges.v) at done.takes) done.none_due c.values_held.ensures.value c.len.ensures.value)

pub returns-clause-applies : goal.returns-clause-applies
returns-clause-applies g c =
    let it = taken g (goal.at.returns-clause-applies g c).After-reserve_window in
    rw (← c.self.view_is, c.from.ensures, parts-set)
    (applies-unvalued it c.append_value.new.self.part c.append_value.new.records c.append_value.ensures.same _ c.in-Err-append_value.fault
    (rw (to_z-of_z w64 c.args.v c.ranges.v) at c.in-Err-append_value.ensures.takes) c.in-Err-append_value.ensures.changed)

pub returns-in-Err-clause-costs : goal.returns-in-Err-clause-costs
returns-in-Err-clause-costs g c told = StagesAtCost-none _ (g.met.D.Disk.knows_now c.args.disk.now told) tt tt tt

pub returns-in-Err-reserve_window-clause-costs : goal.returns-in-Err-reserve_window-clause-costs
returns-in-Err-reserve_window-clause-costs g c told = StagesAtCost-none _ (g.met.D.Disk.knows_now c.args.disk.now told) tt tt tt

pub returns-in-Ok-append_value-clause-costs : goal.returns-in-Ok-append_value-clause-costs
returns-in-Ok-append_value-clause-costs g c told =
    let it = taken g (goal.at.returns-in-Ok-append_value-clause-costs g c).After-reserve_window in
    let few = few-records it in
    rw (← c.self.view_is)
    (StagesAtCost-answers _ (omega (arith, it.taker.low)) (omega (arith, few, ap length c.reserve_window.ensures.entries))
    (c.in-Ok-append_value.ensures.takes.told told) (λ takes. tt))

pub returns-clause-costs : goal.returns-clause-costs
returns-clause-costs g c told =
    let it = taken g (goal.at.returns-clause-costs g c).After-reserve_window in
    let few = few-records it in
    rw (← c.self.view_is)
    (StagesAtCost-failed _ refl (omega (arith, it.taker.low)) (omega (arith, few, ap length c.reserve_window.ensures.entries))
    (c.in-Err-append_value.ensures.takes.told told) (λ takes. tt))
