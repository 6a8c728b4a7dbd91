use Rattle.std.proofs.Common.{◌∙◌, ℕ, List, ap}
use Rattle.std.specs.BTreeMap.{BTreeMap, is_at}
use Rattle.std.specs.Map.{lookup, set_value}
use Rattle.std.specs.Ordering.{nat_cmp}
use Rattle.ss_line.specs.declared.entry.At.{At}
use Rattle.ss_schedule.specs.contracts.times.Times.{the_view}
use Rattle.ss_schedule.proofs.OrderLemmas.{lookup-absent, lookup-there, set_value-there}
use Rattle.ss_schedule.proofs.times.Times.put.Goals.{in-Some, in_default}
use Rattle.ss_schedule.proofs.times.Times.put.Goals as goal

pub returns-clause-place : goal.returns-clause-place
returns-clause-place c before behind was is =
    let there = c.self.view_is ∙ is in
    let ascend = rw there at c.get_mut.ensures.ordered in
    elim c.match-get_mut.branch [
      | in-Some w ↦ ap the_view w.self-inside-is ∙ (c.get_mut.follows.holds c.args.at).0 ∙
          ap (λ (es : List (ℕ × At)). set_value (is_at (nat_cmp c.args.t)) es c.args.at) there ∙
          set_value-there before c.args.t was c.args.at behind ascend
      | in_default w ↦ (
          let none = w.in_default.ensures.value in
          let some = ap (lookup (is_at (nat_cmp c.args.t))) there ∙ lookup-there before c.args.t was behind ascend in
          absurd (cc (none, some)))
    ]

pub returns-clause-absent : goal.returns-clause-absent
returns-clause-absent c all =
    let none = ap (lookup (is_at (nat_cmp c.args.t))) c.self.view_is ∙ lookup-absent c.args.self.now c.args.t all in
    elim c.match-get_mut.branch [
      | in-Some w ↦ (let some = w.in-Some.ensures.value in absurd (cc (none, some)))
      | in_default w ↦ ap the_view w.self-inside-is ∙ ap (λ (m : BTreeMap ℕ At). m.entries) c.get_mut.follows.holds-at-none ∙ c.self.view_is
    ]
