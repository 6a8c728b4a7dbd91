use Rattle.ss_store.proofs.Common.{◌≡◌, ◌∙◌, ℕ, ℤ, Some, ap, sym, to_z-of_z, to_z, of_z, Figures, Newest, err_from_is_err_and, newest_told}
use Rattle.std.specs.Int.{w64}
use Rattle.ss_store.proofs.ChangedSlots.{IfChanged-window}
use Rattle.ss_store.proofs.ToldNewest.{tells-kept, tells-read}
use Rattle.ss_store.proofs.store.Store.newest_of.Goals as goal

pub returns-in-None-clause-tells : goal.returns-in-None-clause-tells
returns-in-None-clause-tells g c =
    let part = c.part-part.result.now in
    tells-kept (g.D.Disk.seen c.args.disk.now) c.args.self.now c.args.name.now c.args.id.0 part
    c.requires.one_disk c.requires.runs c.part-part.ensures c.requires.same (sym c.newest_place.ensures.place ∙ c.in-None.is) c.told.result
    (c.told.ensures ∙ ap (newest_told part.last_time) c.known_kept-kept.ensures)

pub returns-in_err-summary-in-Some-clause-changed : goal.returns-in_err-summary-in-Some-clause-changed
returns-in_err-summary-in-Some-clause-changed g c =
    let p = err_from_is_err_and c.from_residual.result c.from_residual.ensures.1 in
    rw (p.1, p.2) (IfChanged-window c.in_err-summary-in-Some.field-0.0 c.args.self.now.streams c.args.id.0 c.args.name.now c.part-part.result.now c.in-Some.at
    c.part-part.ensures c.requires.same c.in-Some.ensures.stands c.in_err-summary-in-Some.ensures.changed)

pub returns-clause-tells : goal.returns-clause-tells
returns-clause-tells g c =
    let part = c.part-part.result.now in
    let f = c.summary.inside in
    let tale : ℕ → ℤ → ℤ → Newest = λ t lo hi. newest_told part.last_time (Some (record { at = t; lo = lo; hi = hi })) in
    let placed = c.in_ok-summary-in-Some.field-0 in
    let t : f.t_last ≡ placed.summary.t_last = ap (λ (s : Figures). s.t_last) c.summary.view_is in
    let lo : to_z w64 (of_z w64 f.min) ≡ placed.summary.min =
    to_z-of_z w64 f.min c.summary.invariant.min_fits ∙ ap (λ (s : Figures). s.min) c.summary.view_is in
    let hi : to_z w64 (of_z w64 f.max) ≡ placed.summary.max =
    to_z-of_z w64 f.max c.summary.invariant.max_fits ∙ ap (λ (s : Figures). s.max) c.summary.view_is in
    tells-read (g.D.Disk.seen c.args.disk.now) c.args.self.now c.args.name.now c.args.id.0 part c.requires.one_disk c.requires.runs c.part-part.ensures
    c.requires.same (g.D.Disk.seen c.window_read.new.disk) c.in-Some.at (sym c.newest_place.ensures.place ∙ c.in-Some.is) c.in-Some.ensures.last placed
    c.in_ok-summary-in-Some.ensures.shows c.told-in-Some.result
    (c.told-in-Some.ensures
    ∙ ap (λ (n : ℕ). tale n (to_z w64 (of_z w64 f.min)) (to_z w64 (of_z w64 f.max))) t
    ∙ ap (λ (v : ℤ). tale placed.summary.t_last v (to_z w64 (of_z w64 f.max))) lo
    ∙ ap (λ (v : ℤ). tale placed.summary.t_last placed.summary.min v) hi)
