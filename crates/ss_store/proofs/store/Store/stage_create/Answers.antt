use Rattle.ss_stream.proofs.Costs.{StagesAtCost-answers, StagesAtCost-failed, StagesAtCost-none}
use Rattle.ss_stream.proofs.KeyedWindows.{IsScheduled-none}
use Rattle.ss_store.proofs.Common.{◌≡◌, All-push, None, ap, arith, false, refl, true, Create, LineState, IsScheduled}
use Rattle.ss_store.proofs.Applying.{Applies-refused, Applies-starved}
use Rattle.ss_store.proofs.Created.{IsFreshPart-made}
use Rattle.ss_store.proofs.Creating.{IsCreating, applies-created, applies-unwritten, creating, sound-created, sound-unwritten}
use Rattle.ss_store.proofs.IndexedStreams.{parts-more, stored}
use Rattle.ss_store.proofs.Spared.{SameButSpare-same}
use Rattle.ss_store.proofs.store.Store.stage_create.Goals as goal
use Rattle.ss_store.proofs.store.Store.stage_create.Goals.{After-grow}

pub returns-in-Err-clause-applies : goal.returns-in-Err-clause-applies
returns-in-Err-clause-applies g c =
    Applies-refused (Create c.args.name c.args.params) c.args.self.now _ c.in-Err.refusal c.in-Err.ensures.refused (λ run. c.requires.one_disk)
    (g.met.D.Disk.knows_now c.args.disk.now)

pub returns-in-Err-grow-clause-applies : goal.returns-in-Err-grow-clause-applies
returns-in-Err-grow-clause-applies g c =
    rw (c.in-Err-grow.ensures.err_streams, c.self.view_is)
    (Applies-starved (Create c.args.name c.args.params) c.args.self.now c.args.self.now c.in-Ok.ensures.accepted _ (SameButSpare-same c.args.self.now)
    (λ run. c.requires.one_disk) (g.met.D.Disk.knows_now c.args.disk.now))

-- what is known once the stream is held
created : (g : _) (c : goal.After-grow g) →
    IsCreating (stored c.self.inside.streams.items c.self.inside.records c.self.inside.stopped) c.self.inside.catalog c.args.name c.args.params
    (record {
      id = c.in-Ok.new.1;
      name = c.args.name;
      target = c.in-Ok.new.0;
      slot = c.in-Ok.new.2;
      last_time = None;
      line = c.new.result;
      landmarks = c.new-2.result;
    })
    (g.D.Disk.seen c.args.disk.now)
created g c =
    creating c.self.inside.streams.items (g.D.Disk.seen c.args.disk.now) c.self.view_is c.requires.one_disk c.self.invariant.0 c.requires.runs
    c.in-Ok.ensures.accepted
    (IsFreshPart-made _ c.args.params c.in-Ok.ensures.target refl (ap (λ (l : LineState). l.entries) c.new.ensures) c.new-2.ensures) c.in-Ok.ensures.new

pub invariant_of-self-in-Ok-stage_record : goal.invariant_of-self-in-Ok-stage_record
invariant_of-self-in-Ok-stage_record g c =
    let is = created g (goal.at.invariant_of-self-in-Ok-stage_record g c).After-grow in
    let done = c.in-Ok-stage_record.ensures in (
      rw (c.in-Ok-grow.ensures.streams, c.in-Ok-grow.ensures.catalog, parts-more) (sound-created is c.stage_record.new.records done.settled done.live),
      λ run. rw c.in-Ok-grow.ensures.streams
          (All-push IsScheduled c.self.inside.streams.items _ (c.self.invariant.1 run)
          (IsScheduled-none _ c.new-3.ensures.target (ap (λ (l : LineState). l.entries) c.new.ensures) (c.new-3.ensures.keyed 0 (omega arith))
          c.new-3.ensures.times)),
    )

pub invariant_of-self-in-Err-stage_record : goal.invariant_of-self-in-Err-stage_record
invariant_of-self-in-Err-stage_record g c =
    let is = created g (goal.at.invariant_of-self-in-Err-stage_record g c).After-grow in (
      rw (c.in-Ok-grow.ensures.streams, c.in-Ok-grow.ensures.catalog, parts-more) (sound-unwritten is c.stage_record.new.records),
      λ run. let wrong : true ≡ false = run in absurd (cc),
    )

pub returns-in-Ok-stage_record-clause-applies : goal.returns-in-Ok-stage_record-clause-applies
returns-in-Ok-stage_record-clause-applies g c =
    let is = created g (goal.at.returns-in-Ok-stage_record-clause-applies g c).After-grow in
    let done = c.in-Ok-stage_record.ensures in
    rw (← c.self.view_is, c.in-Ok-grow.ensures.streams, parts-more)
    (applies-created is c.stage_record.new.records _ _ done.extent (rw c.record_of.ensures.value at done.stages))

pub returns-in-Err-stage_record-clause-applies : goal.returns-in-Err-stage_record-clause-applies
returns-in-Err-stage_record-clause-applies g c =
    let is = created g (goal.at.returns-in-Err-stage_record-clause-applies g c).After-grow in
    rw (← c.self.view_is, c.in-Ok-grow.ensures.streams, parts-more)
    (applies-unwritten is c.stage_record.new.records _ _ (rw c.record_of.ensures.value at c.in-Err-stage_record.ensures.stages))

pub returns-in-Err-clause-costs : goal.returns-in-Err-clause-costs
returns-in-Err-clause-costs g c told = StagesAtCost-none _ (g.met.D.Disk.knows_now c.args.disk.now told) tt tt tt

pub returns-in-Err-grow-clause-costs : goal.returns-in-Err-grow-clause-costs
returns-in-Err-grow-clause-costs g c told = StagesAtCost-none _ (g.met.D.Disk.knows_now c.args.disk.now told) tt tt tt

pub returns-in-Ok-stage_record-clause-costs : goal.returns-in-Ok-stage_record-clause-costs
returns-in-Ok-stage_record-clause-costs g c told =
    let is = created g (goal.at.returns-in-Ok-stage_record-clause-costs g c).After-grow in
    rw (← c.self.view_is)
    (StagesAtCost-answers _ (omega (arith, is.is_new.low)) (omega arith) (c.in-Ok-stage_record.ensures.stages.told told) (λ made. tt))

pub returns-in-Err-stage_record-clause-costs : goal.returns-in-Err-stage_record-clause-costs
returns-in-Err-stage_record-clause-costs g c told =
    let is = created g (goal.at.returns-in-Err-stage_record-clause-costs g c).After-grow in
    rw (← c.self.view_is)
    (StagesAtCost-failed _ refl (omega (arith, is.is_new.low)) (omega arith) (c.in-Err-stage_record.ensures.stages.told told) (λ made. tt))
