use Rattle.ss_store.proofs.Common.{◌≡◌, ◌∙◌, ap, Some, held_parts, StoreState, part_numbered}
use Rattle.ss_store.proofs.EventsHeld.{counted-held, few-held, sum-held}
use Rattle.ss_store.proofs.store.Store.events_in.Goals as goal

pub returns-clause-held : goal.returns-clause-held
returns-clause-held g c runs =
    let part = c.part-part.result.now in
    let parts = held_parts c.self.inside.streams.items in
    let number = c.args.id.0 in
    let found : part_numbered number parts ≡ Some part = ap (λ (s : StoreState). part_numbered number s.streams) c.self.view_is ∙ c.part-part.ensures in
    let whole = c.self.invariant.0.whole (ap (λ (s : StoreState). s.stopped) c.self.view_is ∙ runs) in
    let few = few-held parts number part c.self.inside.records.live whole found in
    rw c.part-part.ensures (sum-held part c.values_held-values.result c.mark_events-marks.result c.saturating_add.result c.values_held-values.ensures.value
    c.mark_events-marks.ensures.value c.mark_events-marks.ensures.few few c.saturating_add.ensures)

pub returns-clause-history : goal.returns-clause-history
returns-clause-history g c history whole agree =
    let part = c.part-part.result.now in
    let counted = counted-held c.args.self.now.streams c.args.id.0 part history whole agree c.part-part.ensures in
    rw c.part-part.ensures (sum-held part c.values_held-values.result c.mark_events-marks.result c.saturating_add.result c.values_held-values.ensures.value
    c.mark_events-marks.ensures.value c.mark_events-marks.ensures.few counted.few c.saturating_add.ensures ∙ counted.events)
