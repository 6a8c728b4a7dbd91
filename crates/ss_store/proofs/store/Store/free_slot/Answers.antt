use Rattle.ss_store.proofs.Common.{◌∙◌, ap, arith, StoreState, held_parts}
use Rattle.ss_store.proofs.LiveCounts.{is_full-exactly, low-slots}
use Rattle.ss_store.proofs.store.Store.free_slot.Goals as goal

pub returns-clause-full : goal.returns-clause-full
returns-clause-full c =
    let parts = held_parts c.self.inside.streams.items in
    let whole = c.self.invariant.0.whole (ap (λ (s : StoreState). s.stopped) c.self.view_is ∙ c.requires) in
    rw (← c.self.view_is)
    (is_full-exactly parts c.self.inside.records.live c.lowest_free.result whole (omega (arith, c.live-live.ensures.most, c.live-live.ensures.value))
    c.lowest_free.ensures.full)

pub returns-clause-low : goal.returns-clause-low
returns-clause-low c =
    let parts = held_parts c.self.inside.streams.items in
    let whole = c.self.invariant.0.whole (ap (λ (s : StoreState). s.stopped) c.self.view_is ∙ c.requires) in
    rw (← c.self.view_is) (low-slots parts c.self.inside.records.live c.lowest_free.result whole c.lowest_free.ensures.few)
