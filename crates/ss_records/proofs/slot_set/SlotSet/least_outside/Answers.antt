use Rattle.std.proofs.Common.{◌∙◌, sym, ap, arith, not, List, ℕ, length}
use Rattle.std.specs.List.{position, position_or_len}
use Rattle.ss_records.specs.Tree.{members}
use Rattle.ss_records.proofs.TreeLemmas.{position-some, position-none}
use Rattle.ss_records.proofs.slot_set.SlotSet.least_outside.Goals as goal

pub returns-then-word : goal.returns-then-word
returns-then-word c =
    let low = c.self.inside.low.items in
    let found = c.first_under-first.ensures in
    let first = found.first ∙ ap (λ (words : List ℕ). position_or_len not (members words)) c.deref.ensures.value in
    let some = position-some low c.first_under-first.result (omega (arith, found.below, ap (λ (words : List ℕ). length words) c.deref.ensures.value)) first in
    sym (ap (position not) (sym c.self.view_is) ∙ some)

pub returns : goal.returns
returns c =
    let end = c.loop-n-test.false in
    let none = position-none c.self.inside.low.items c.self.inside.middle.items c.self.inside.top.items c.self.invariant.0
    (λ word lt. c.loop-n.invariant word (omega (arith, end, lt))) in
    sym (ap (position not) (sym c.self.view_is) ∙ none)
