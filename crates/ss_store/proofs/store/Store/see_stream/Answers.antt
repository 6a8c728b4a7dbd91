use Rattle.ss_store.proofs.Common.{◌≡◌, ◌∙◌, Some, ap, refl, sym, slice_get_within, slice_get}
use Rattle.ss_store.proofs.Common.{window_slots_of, Seen, StoreState, part_named, held_parts}
use Rattle.std.specs.List.{Contains}
use Rattle.ss_store.proofs.IndexedStreams.{IsScheduled-at}
use Rattle.ss_store.proofs.AskedStreams.{IsFirm-kept, sees-kept}
use Rattle.ss_store.proofs.Looking.{IfChanged-ask, IsPartAt-read, Looks-failed}
use Rattle.ss_store.proofs.WindowsHeld.{window_slots-below}
use Rattle.ss_store.proofs.store.Store.see_stream.Goals as goal

pub see_indexed-requires-clause-order : goal.see_indexed-requires-clause-order
see_indexed-requires-clause-order g c = c.requires.asks.order

pub see_indexed-requires-clause-timed : goal.see_indexed-requires-clause-timed
see_indexed-requires-clause-timed g c =
    let streams = ap (λ (s : StoreState). s.streams) c.self.view_is in
    let part = IsPartAt-read c.self.inside.streams.items streams c.place-place.ensures.at c.requires.asks.stands c.index.ensures in
    let here = ap (λ l. slice_get l c.place-place.result) streams ∙ part.at in
    (IsScheduled-at c.self.inside.streams.items c.place-place.result (c.self.invariant.1 (ap (λ (s : StoreState). s.stopped) c.self.view_is ∙ c.requires.runs))
    (slice_get_within (held_parts c.self.inside.streams.items) c.place-place.result c.index.result.now.part here) c.index.ensures).0.timed

pub see_indexed-requires-clause-slots : goal.see_indexed-requires-clause-slots
see_indexed-requires-clause-slots g c =
    let streams = ap (λ (s : StoreState). s.streams) c.self.view_is in
    let part = IsPartAt-read c.self.inside.streams.items streams c.place-place.ensures.at c.requires.asks.stands c.index.ensures in
    let whole = c.self.invariant.0.whole (ap (λ (s : StoreState). s.stopped) c.self.view_is ∙ c.requires.runs) in
    window_slots-below (held_parts c.self.inside.streams.items) c.self.inside.records.live c.place-place.result c.index.result.now.part whole
    c.live-live.ensures.sound.slots (ap (λ l. slice_get l c.place-place.result) streams ∙ part.at)

pub returns-in-Ok-clause-sees : goal.returns-in-Ok-clause-sees
returns-in-Ok-clause-sees g c =
    let streams = ap (λ (s : StoreState). s.streams) c.self.view_is in
    let part = IsPartAt-read c.self.inside.streams.items streams c.place-place.ensures.at c.requires.asks.stands c.index.ensures in
    sees-kept c.args.self.now (sym c.requires.asks.same ∙ part.numbered) c.requires.one_disk c.in-Ok.seen
    (rw (ap (λ (s : StoreState). s.records) c.self.view_is) at c.in-Ok.ensures.sees)

pub returns-clause-looks : goal.returns-clause-looks
returns-clause-looks g c =
    let streams = ap (λ (s : StoreState). s.streams) c.self.view_is in
    let part = IsPartAt-read c.self.inside.streams.items streams c.place-place.ensures.at c.requires.asks.stands c.index.ensures in
    Looks-failed Seen c.in-Err.error c.from.result c.args.self.now _ c.from.ensures refl streams
    (c.in-Err.ensures.records.live ∙ ap (λ (s : StoreState). s.records.live) c.self.view_is)
    (IsFirm-kept c.args.self.now (sym c.requires.asks.same ∙ part.numbered) c.requires.one_disk c.in-Err.error
    (rw (ap (λ (s : StoreState). s.records) c.self.view_is) at c.in-Err.ensures.sees))

pub returns-clause-changed : goal.returns-clause-changed
returns-clause-changed g c =
    let streams = ap (λ (s : StoreState). s.streams) c.self.view_is in
    let part = IsPartAt-read c.self.inside.streams.items streams c.place-place.ensures.at c.requires.asks.stands c.index.ensures in
    let named : part_named c.args.query.now.name c.args.self.now.streams ≡ Some c.index.result.now.part = sym c.requires.asks.same ∙ part.numbered in
    rw named
    (IfChanged-ask Seen Seen (Contains (window_slots_of c.index.result.now.part)) c.in-Err.error c.from.result c.from.ensures
    c.in-Err.ensures.changed)
