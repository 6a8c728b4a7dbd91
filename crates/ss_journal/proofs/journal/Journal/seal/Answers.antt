use Rattle.ss_journal.proofs.Common.{List, ap, arith, length, refl, sym, ◌∙◌, ◌≡◌, eqb-false, entry_count, group_bytes, JournalState, closed_behind, Put}
use Rattle.ss_journal.proofs.SealSteps.{Seals-of, fits-staged, gate-staged, seals-entered}
use Rattle.ss_journal.proofs.StepLemmas.{step-from}
use Rattle.ss_journal.proofs.journal.Journal.seal.Goals as goal

pub add_entries-added-requires-clause-gate : goal.add_entries-added-requires-clause-gate
add_entries-added-requires-clause-gate g c =
    let some : length c.self.inside.staged ≡ 0 → ⊥ = λ none. eqb-false (length c.as_slice.result.now) 0 (sym c.is_empty.ensures ∙ c.if-is_empty.false)
    (rw (c.as_slice.ensures.all, none)) in
    gate-staged c.self.inside.staged c.as_slice-2.result.now c.as_slice-2.ensures.all c.self.inside.kind c.self.inside.sealed (omega (arith, some))
    c.as_slice-3.result.now (c.as_slice-3.ensures ∙ c.spell.ensures)

pub add_entries-added-requires-clause-few : goal.add_entries-added-requires-clause-few
add_entries-added-requires-clause-few g c =
    fits-staged _ c.self.invariant c.as_slice-2.result.now c.as_slice-2.ensures.all c.as_slice-3.result.now (c.as_slice-3.ensures ∙ c.spell.ensures)

pub returns-clause-seals : goal.returns-clause-seals
returns-clause-seals g c =
    let some : length c.self.inside.staged ≡ 0 → ⊥ = λ none. eqb-false (length c.as_slice.result.now) 0 (sym c.is_empty.ensures ∙ c.if-is_empty.false)
    (rw (c.as_slice.ensures.all, none)) in
    step-from c.in_ok-added.ensures.enters (λ told enters.
    let kept = rw (← c.self.view_is) at (c.requires.one_disk told) in
    let all = c.as_slice-3.ensures ∙ c.spell.ensures
    ∙ ap (λ (list : List Put). closed_behind c.self.inside.sealed (group_bytes c.self.inside.kind c.self.inside.sealed (entry_count (length list)) list))
    c.as_slice-2.ensures.all in
    Seals-of c.self.view_is (seals-entered _ _ c.self.inside.sealed refl c.as_slice-3.result.now all _ _ kept c.self.invariant.whole
    (omega (arith, some)) _ enters
    (ap (λ (j : JournalState). j.phase) c.self.view_is ∙ c.requires.settled) refl refl refl c.clear.ensures refl))
