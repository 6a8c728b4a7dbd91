use Rattle.ss_stream.proofs.Costs.{StagesAtCost-answers, StagesAtCost-failed, StagesAtCost-none}
use Rattle.ss_store.proofs.Common.{◌≡◌, ◌∙◌, ap, arith, false, length, refl, true, Drop, Unknown, IsScheduled, StoreState, held_parts}
use Rattle.ss_store.proofs.Spared.{SameButSpare-same}
use Rattle.ss_store.proofs.Applying.{Applies-refused, Applies-starved}
use Rattle.ss_store.proofs.Found.{IsAtPlace-found, IsTakenOut-found, inside-found, none-found}
use Rattle.ss_store.proofs.Dropped.{applies-dropped, applies-undropped, dropping, live-slots, sound-dropped, sound-undropped}
use Rattle.ss_store.proofs.Refusals.{refuses_held-dropped, refuses_held-undropped}
use Rattle.ss_store.proofs.IndexedStreams.{parts-remove}
use Rattle.ss_store.proofs.Removed.{All-remove}
use Rattle.ss_store.proofs.LiveCounts.{few-slots, length-slots_in_turn}
use Rattle.ss_store.proofs.store.Store.stage_drop.Goals as goal

pub returns-in_default-clause-applies : goal.returns-in_default-clause-applies
returns-in_default-clause-applies g c =
    Applies-refused (Drop c.args.name.now) c.args.self.now _ Unknown
    (refuses_held-undropped c.args.self.now.streams c.args.name.now (none-found c.args.self.now.streams c.args.name.now c.in_default.is c.requires.found))
    (λ run. c.requires.one_disk) (g.met.D.Disk.knows_now c.args.disk.now)

pub index-requires : goal.index-requires
index-requires g c =
    let inside = inside-found c.self.inside.streams.items c.args.name.now (ap (λ (s : StoreState). s.streams) c.self.view_is) c.in-Some.is c.requires.found in
    omega (arith, inside)

pub returns-in-Err-clause-applies : goal.returns-in-Err-clause-applies
returns-in-Err-clause-applies g c =
    let is = IsAtPlace-found c.self.inside.streams.items c.args.name.now
    (ap (λ (s : StoreState). s.streams) c.self.view_is) c.in-Some.is c.requires.found c.index.ensures in
    Applies-starved (Drop c.args.name.now) c.args.self.now c.args.self.now
    (refuses_held-dropped c.args.self.now.streams c.args.name.now c.index.result.now.part is.named) _ (SameButSpare-same c.args.self.now)
    (λ run. c.requires.one_disk) (g.met.D.Disk.knows_now c.args.disk.now)

pub stage_doomed-requires-clause-slots : goal.stage_doomed-requires-clause-slots
stage_doomed-requires-clause-slots g c =
    let its = IsTakenOut-found c.self.inside.streams.items c.args.name.now
    (ap (λ (s : StoreState). s.streams) c.self.view_is) c.in-Some.is c.requires.found c.index.ensures
    c.remove-stream.ensures.value (c.deref.ensures.value ∙ c.in-Ok.ensures) in
    its.slots

pub stage_doomed-requires-clause-live : goal.stage_doomed-requires-clause-live
stage_doomed-requires-clause-live g c =
    let its = IsTakenOut-found c.self.inside.streams.items c.args.name.now
    (ap (λ (s : StoreState). s.streams) c.self.view_is) c.in-Some.is c.requires.found c.index.ensures
    c.remove-stream.ensures.value (c.deref.ensures.value ∙ c.in-Ok.ensures) in
    let is = dropping c.self.inside.streams.items
    (g.D.Disk.seen c.args.disk.now) c.self.view_is c.requires.one_disk c.self.invariant.0 c.requires.runs its.stands in
    rw its.slots (live-slots is)

pub stage_doomed-requires-clause-one_disk : goal.stage_doomed-requires-clause-one_disk
stage_doomed-requires-clause-one_disk g c =
    let same : c.self.inside.records ≡ c.args.self.now.records = ap (λ (s : StoreState). s.records) c.self.view_is in
    rw same (λ told. (c.requires.one_disk told).records)

pub invariant_of-self : goal.invariant_of-self
invariant_of-self g c =
    let its = IsTakenOut-found c.self.inside.streams.items c.args.name.now
    (ap (λ (s : StoreState). s.streams) c.self.view_is) c.in-Some.is c.requires.found c.index.ensures
    c.remove-stream.ensures.value (c.deref.ensures.value ∙ c.in-Ok.ensures) in
    let is = dropping c.self.inside.streams.items
    (g.D.Disk.seen c.args.disk.now) c.self.view_is c.requires.one_disk c.self.invariant.0 c.requires.runs its.stands in
    let done = c.in-Ok-stage_doomed.ensures in (
      rw (c.remove-stream.ensures.items, c.remove.ensures.others, parts-remove)
          (sound-dropped is c.stage_doomed.new.records done.settled (rw its.slots at done.live)),
      λ run. rw c.remove-stream.ensures.items (All-remove IsScheduled c.self.inside.streams.items c.in-Some.place (c.self.invariant.1 run)),
    )

pub invariant_of-self-in-Err-stage_doomed : goal.invariant_of-self-in-Err-stage_doomed
invariant_of-self-in-Err-stage_doomed g c =
    let its = IsTakenOut-found c.self.inside.streams.items c.args.name.now
    (ap (λ (s : StoreState). s.streams) c.self.view_is) c.in-Some.is c.requires.found c.index.ensures
    c.remove-stream.ensures.value (c.deref.ensures.value ∙ c.in-Ok.ensures) in
    let is = dropping c.self.inside.streams.items
    (g.D.Disk.seen c.args.disk.now) c.self.view_is c.requires.one_disk c.self.invariant.0 c.requires.runs its.stands in (
      rw (c.remove-stream.ensures.items, c.remove.ensures.others, parts-remove) (sound-undropped is c.stage_doomed.new.records),
      λ run. let wrong : true ≡ false = run in absurd (cc),
    )

pub returns-in-Ok-stage_doomed-clause-applies : goal.returns-in-Ok-stage_doomed-clause-applies
returns-in-Ok-stage_doomed-clause-applies g c =
    let its = IsTakenOut-found c.self.inside.streams.items c.args.name.now
    (ap (λ (s : StoreState). s.streams) c.self.view_is) c.in-Some.is c.requires.found c.index.ensures
    c.remove-stream.ensures.value (c.deref.ensures.value ∙ c.in-Ok.ensures) in
    let is = dropping c.self.inside.streams.items
    (g.D.Disk.seen c.args.disk.now) c.self.view_is c.requires.one_disk c.self.invariant.0 c.requires.runs its.stands in
    let done = c.in-Ok-stage_doomed.ensures in
    rw (← c.self.view_is, c.remove-stream.ensures.items, parts-remove) (applies-dropped is c.stage_doomed.new.records _ _ done.extent done.drops)

pub returns-clause-applies : goal.returns-clause-applies
returns-clause-applies g c =
    let its = IsTakenOut-found c.self.inside.streams.items c.args.name.now
    (ap (λ (s : StoreState). s.streams) c.self.view_is) c.in-Some.is c.requires.found c.index.ensures
    c.remove-stream.ensures.value (c.deref.ensures.value ∙ c.in-Ok.ensures) in
    let is = dropping c.self.inside.streams.items
    (g.D.Disk.seen c.args.disk.now) c.self.view_is c.requires.one_disk c.self.invariant.0 c.requires.runs its.stands in
    rw (← c.self.view_is, c.remove-stream.ensures.items, parts-remove)
    (applies-undropped is c.stage_doomed.new.records _ _ c.in-Err-stage_doomed.ensures.drops)

pub returns-in_default-clause-costs : goal.returns-in_default-clause-costs
returns-in_default-clause-costs g c told = StagesAtCost-none _ (g.met.D.Disk.knows_now c.args.disk.now told) tt tt tt

pub returns-in-Err-clause-costs : goal.returns-in-Err-clause-costs
returns-in-Err-clause-costs g c told = StagesAtCost-none _ (g.met.D.Disk.knows_now c.args.disk.now told) tt tt tt

pub returns-in-Ok-stage_doomed-clause-costs : goal.returns-in-Ok-stage_doomed-clause-costs
returns-in-Ok-stage_doomed-clause-costs g c told =
    let its = IsTakenOut-found c.self.inside.streams.items c.args.name.now
    (ap (λ (s : StoreState). s.streams) c.self.view_is) c.in-Some.is c.requires.found c.index.ensures
    c.remove-stream.ensures.value (c.deref.ensures.value ∙ c.in-Ok.ensures) in
    let few = few-slots (held_parts c.self.inside.streams.items) c.in-Some.place c.remove-stream.result.part its.stands.at in
    rw (← c.self.view_is)
    (StagesAtCost-answers _ (omega arith) (omega (arith, few, ap length its.slots, length-slots_in_turn c.remove-stream.result.part))
    (c.in-Ok-stage_doomed.ensures.drops.told told) (λ drops. tt))

pub returns-clause-costs : goal.returns-clause-costs
returns-clause-costs g c told =
    let its = IsTakenOut-found c.self.inside.streams.items c.args.name.now
    (ap (λ (s : StoreState). s.streams) c.self.view_is) c.in-Some.is c.requires.found c.index.ensures
    c.remove-stream.ensures.value (c.deref.ensures.value ∙ c.in-Ok.ensures) in
    let few = few-slots (held_parts c.self.inside.streams.items) c.in-Some.place c.remove-stream.result.part its.stands.at in
    rw (← c.self.view_is)
    (StagesAtCost-failed _ refl (omega arith) (omega (arith, few, ap length its.slots, length-slots_in_turn c.remove-stream.result.part))
    (c.in-Err-stage_doomed.ensures.drops.told told) (λ drops. tt))
