use Rattle.ss_store.proofs.Common.{ap, refl, ◌∙◌, Placed, StoreState}
use Rattle.ss_store.proofs.Looking.{IsPartAt-read, Looks-failed}
use Rattle.ss_store.proofs.WindowsRead.{IsFirm-read, entry-read, shows-read}
use Rattle.ss_store.proofs.store.Store.read_in.Goals as goal

pub returns-in-Ok-clause-shows : goal.returns-in-Ok-clause-shows
returns-in-Ok-clause-shows g c =
    let streams = ap (λ (s : StoreState). s.streams) c.self.view_is in
    let part = IsPartAt-read c.self.inside.streams.items streams c.place-place.ensures.at c.requires.stands c.index.ensures in
    shows-read c.read_window.new.records c.args.self.now c.args.id.0 c.args.at part.numbered
    (entry-read c.args.at part.numbered c.entry-entry.ensures.entry) c.requires.one_disk c.in-Ok.summary
    (rw (ap (λ (s : StoreState). s.records) c.self.view_is) at c.in-Ok.ensures.reads)

pub returns-clause-looks : goal.returns-clause-looks
returns-clause-looks g c =
    let streams = ap (λ (s : StoreState). s.streams) c.self.view_is in
    let part = IsPartAt-read c.self.inside.streams.items streams c.place-place.ensures.at c.requires.stands c.index.ensures in
    Looks-failed Placed c.in-Err.error c.from.result c.args.self.now _ c.from.ensures refl streams
    (c.in-Err.ensures.records.live ∙ ap (λ (s : StoreState). s.records.live) c.self.view_is)
    (IsFirm-read c.read_window.new.records c.args.self.now c.args.id.0 c.args.at part.numbered
    (entry-read c.args.at part.numbered c.entry-entry.ensures.entry) c.requires.one_disk c.in-Err.error
    (rw (ap (λ (s : StoreState). s.records) c.self.view_is) at c.in-Err.ensures.reads))
