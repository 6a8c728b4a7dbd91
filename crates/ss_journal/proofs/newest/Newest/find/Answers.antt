use Rattle.ss_journal.proofs.Common.{◌<◌, ◌≡◌, ◌∙◌, List, [], ap, get_or, length, sym, arith, with_puts, Put}
use Rattle.ss_journal.proofs.NewestLemmas.{found-place, no-place}
use Rattle.ss_journal.proofs.newest.Newest.find.Goals as goal
use Rattle.ss_journal.proofs.newest.Newest.find.Goals.{else-place-puts-via-then-place-puts+else-puts-place, else-place-puts-via-else-place-puts}

pub returns-then-puts-place : goal.returns-then-puts-place
returns-then-puts-place c map =
    let d : Put = record { slot = 0; bytes = [] } in
    let puts = c.as_slice-puts.result.now in
    let same = c.as_slice-puts.ensures.value in
    ap (λ (list : List Put). with_puts list map c.args.slot) (sym (same ∙ c.self.view_is))
    ∙ found-place puts c.count_below-place.result c.args.slot d (rw same c.self.invariant.1) c.if-place-puts.true c.if-puts-place.true map

pub returns : goal.returns
returns c map =
    let d : Put = record { slot = 0; bytes = [] } in
    let puts = c.as_slice-puts.result.now in
    let place = c.count_below-place.result in
    let same = c.as_slice-puts.ensures.value in
    let apart : place < length puts → (get_or puts place d).slot ≡ c.args.slot → ⊥ = elim c.else-place-puts.branch [
      | else-place-puts-via-then-place-puts+else-puts-place w ↦ λ lt is. w.if-puts-place.false is
      | else-place-puts-via-else-place-puts w ↦ λ lt is. absurd (omega (arith, lt, w.if-place-puts.false))
    ] in
    ap (λ (list : List Put). with_puts list map c.args.slot) (sym (same ∙ c.self.view_is))
    ∙ no-place puts place c.args.slot d (rw same c.self.invariant.1)
    c.count_below-place.ensures.below c.count_below-place.ensures.from apart map
