use Rattle.ss_journal.proofs.Common.{◌<◌, ◌≡◌, ◌∙◌, List, [], ap, arith, get_or, length, cond-true, with_newest, Put}
use Rattle.std.proofs.Common.{set}
use Rattle.std.proofs.lemmas.List.{get_or_read}
use Rattle.ss_journal.proofs.NewestLemmas.{rise-with_newest, with_newest-insert, with_newest-set}
use Rattle.ss_journal.proofs.newest.Newest.put.Goals as goal
use Rattle.ss_journal.proofs.newest.Newest.put.Goals.{else-place-len-via-then-place-len+else-index-put, else-place-len-via-else-place-len}

-- the put takes the place of the one for its slot
replaced : (c : goal.After-self-1) → set c.self.inside.puts.items c.count_below-place.result c.args.put.now
    ≡ with_newest c.args.put.now c.self.inside.puts.items
replaced c =
    let same = c.as_slice.ensures.value in
    let count = ap (λ (list : List Put). length list) same in
    with_newest-set c.args.put.now c.self.inside.puts.items c.count_below-place.result c.index.result.now (omega (arith, count))
    (rw same at c.count_below-place.ensures.below) (rw (← c.index.ensures, c.if-index-put.true))

-- or it comes between those below and those above
inserted : (c : goal.After-insert) → c.insert.new.self.items ≡ with_newest c.args.put.now c.self.inside.puts.items
inserted c =
    let d : Put = record { slot = 0; bytes = [] } in
    let put = c.args.put.now in
    let held = c.self.inside.puts.items in
    let place = c.count_below-place.result in
    let same = c.as_slice.ensures.value in
    let count = ap (λ (list : List Put). length list) same in
    let seen = ap (λ (list : List Put). length list) c.self.view_is in
    let room = c.self.invariant.0 in
    let apart : place < length held → (get_or held place d).slot ≡ put.slot → ⊥ = elim c.else-place-len.branch [
      | else-place-len-via-then-place-len+else-index-put w ↦ λ lt is.
          w.if-index-put.false (rw (get_or_read held place w.index.result.now lt w.index.ensures d, is))
      | else-place-len-via-else-place-len w ↦ λ lt is. absurd (omega (arith, count, lt, w.if-place-len.false))
    ] in
    c.insert.ensures.items ∙ cond-true _ _ _ (c.insert.ensures.succeeds (omega (arith, count, seen, room)))
    ∙ with_newest-insert put held place d (omega (arith, count, c.count_below-place.ensures.most)) (rw same at c.count_below-place.ensures.below)
    (rw same at c.count_below-place.ensures.from) apart

pub invariant_of-self : goal.invariant_of-self
invariant_of-self c = (
  c.self.invariant.0,
  rw replaced (rise-with_newest c.args.put.now 0 c.self.inside.puts.items (omega arith) c.requires.slot c.self.invariant.1),
)

pub invariant_of-self-else-place-len : goal.invariant_of-self-else-place-len
invariant_of-self-else-place-len c = (
  omega (arith, c.self.invariant.0, c.insert.ensures.capacity),
  rw inserted (rise-with_newest c.args.put.now 0 c.self.inside.puts.items (omega arith) c.requires.slot c.self.invariant.1),
)

pub returns-then-index-put-clause-kept : goal.returns-then-index-put-clause-kept
returns-then-index-put-clause-kept c = replaced c ∙ ap (with_newest c.args.put.now) c.self.view_is

pub returns-else-place-len-clause-kept : goal.returns-else-place-len-clause-kept
returns-else-place-len-clause-kept c = inserted c ∙ ap (with_newest c.args.put.now) c.self.view_is
