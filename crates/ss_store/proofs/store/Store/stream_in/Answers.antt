use Rattle.ss_store.proofs.Common.{◌≡◌, ◌∙◌, ap, length, refl, Some, sym, option_map, slice_get, slice_get_read, StreamRow, AllAgree, StoreState}
use Rattle.ss_store.proofs.Common.{held_parts, row_of_held}
use Rattle.ss_store.proofs.IndexedStreams.{parts-read}
use Rattle.ss_store.proofs.RowsHeld.{row-at}
use Rattle.ss_store.proofs.store.Store.stream_in.Goals as goal

pub returns-clause-held : goal.returns-clause-held
returns-clause-held g c =
    let parts = held_parts c.self.inside.streams.items in
    let part = c.index.result.now.part in
    let at : slice_get parts c.args.place ≡ Some part =
    slice_get_read parts (length parts) c.args.place part refl
    (rw (← c.self.view_is) at c.requires.place) (parts-read c.self.inside.streams.items c.args.place c.index.ensures) in
    ap (λ (s : StoreState). option_map row_of_held (slice_get s.streams c.args.place)) (sym c.self.view_is) ∙ ap (option_map row_of_held) at
    ∙ ap (λ (r : StreamRow). Some r) (rw (
      c.params.ensures,
      c.values_held.ensures.value,
      c.len.ensures.value,
      c.count.ensures.value,
      c.values.ensures.value,
    ) refl)

pub returns-clause-row : goal.returns-clause-row
returns-clause-row g c streams state each =
    let parts = held_parts c.self.inside.streams.items in
    let part = c.index.result.now.part in
    let held : AllAgree parts streams = rw (← c.self.view_is) at each in
    let at : slice_get parts c.args.place ≡ Some part =
    slice_get_read parts (length parts) c.args.place part refl
    (rw (← c.self.view_is) at c.requires.place) (parts-read c.self.inside.streams.items c.args.place c.index.ensures) in
    row-at parts streams c.args.place part _ state held at
    (rw (
      c.params.ensures,
      c.values_held.ensures.value,
      c.len.ensures.value,
      c.count.ensures.value,
      c.values.ensures.value,
    ) refl)
