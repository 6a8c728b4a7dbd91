use Rattle.ss_store.proofs.Common.{◌≡◌, ◌∙◌, Some, ap, StoreState, part_numbered, held_parts}
use Rattle.ss_store.proofs.WindowsHeld.{IsEntry-numbered}
use Rattle.ss_store.proofs.store.Store.entry.Goals as goal

pub returns-clause-slot : goal.returns-clause-slot
returns-clause-slot g c =
    let whole = c.self.invariant.0.whole (ap (λ (s : StoreState). s.stopped) c.self.view_is ∙ c.requires.runs) in
    let part = c.part.result.now in
    let numbered : part_numbered c.args.id.0 (held_parts c.self.inside.streams.items) ≡ Some part =
    ap (λ (s : StoreState). part_numbered c.args.id.0 s.streams) c.self.view_is ∙ c.part.ensures in
    let is = IsEntry-numbered (held_parts c.self.inside.streams.items) c.self.inside.records.live c.args.id.0 part c.args.at c.get.result whole
    c.live-live.ensures.sound.slots numbered c.get.ensures.entry in
    is.slot

pub returns-clause-some : goal.returns-clause-some
returns-clause-some g c =
    let whole = c.self.invariant.0.whole (ap (λ (s : StoreState). s.stopped) c.self.view_is ∙ c.requires.runs) in
    let part = c.part.result.now in
    let numbered : part_numbered c.args.id.0 (held_parts c.self.inside.streams.items) ≡ Some part =
    ap (λ (s : StoreState). part_numbered c.args.id.0 s.streams) c.self.view_is ∙ c.part.ensures in
    let is = IsEntry-numbered (held_parts c.self.inside.streams.items) c.self.inside.records.live c.args.id.0 part c.args.at c.get.result whole
    c.live-live.ensures.sound.slots numbered c.get.ensures.entry in
    is.some

pub returns-clause-most : goal.returns-clause-most
returns-clause-most g c =
    let whole = c.self.invariant.0.whole (ap (λ (s : StoreState). s.stopped) c.self.view_is ∙ c.requires.runs) in
    let part = c.part.result.now in
    let numbered : part_numbered c.args.id.0 (held_parts c.self.inside.streams.items) ≡ Some part =
    ap (λ (s : StoreState). part_numbered c.args.id.0 s.streams) c.self.view_is ∙ c.part.ensures in
    let is = IsEntry-numbered (held_parts c.self.inside.streams.items) c.self.inside.records.live c.args.id.0 part c.args.at c.get.result whole
    c.live-live.ensures.sound.slots numbered c.get.ensures.entry in
    is.most
