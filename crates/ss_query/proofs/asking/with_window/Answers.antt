use Rattle.std.proofs.Common.{arith, inl, inr}
use Rattle.std.proofs.lemmas.Bool.{cases_lt}
use Rattle.ss_query.proofs.asking.with_window.Goals as goal

-- the range splits a window at its left end or at its right one
pub returns-clause-searches : goal.returns-clause-searches
returns-clause-searches g c =
    let left = c.left_with.ensures.searches in
    let right = c.right_with.ensures.searches in
    let value = c.presence_with.ensures.searches in
    elim (cases_lt c.args.window.now.summary.t_first c.args.query.now.from) [
      | inl before ↦ (let none = c.right_with.ensures.unsearched before in omega (arith, left, none, value))
      | inr begun ↦ (let none = c.left_with.ensures.unsearched begun in omega (arith, right, none, value))
    ]
