use Rattle.std.proofs.Common.{◌∙◌, ap}
use Rattle.std.specs.BTreeMap.{is_at}
use Rattle.std.specs.Map.{lookup, remove_entry}
use Rattle.std.specs.Ordering.{nat_cmp}
use Rattle.ss_schedule.proofs.OrderLemmas.{lookup-absent, remove_entry-there}
use Rattle.ss_schedule.proofs.times.Times.cut_out.Goals as goal

pub returns-clause-rest : goal.returns-clause-rest
returns-clause-rest c before behind was is =
    let there = c.self.view_is ∙ is in
    c.remove.ensures.entries ∙ ap (remove_entry (is_at (nat_cmp c.args.t))) there ∙
    remove_entry-there before c.args.t was behind (rw there at c.len-len.ensures.ordered)

pub returns-clause-absent : goal.returns-clause-absent
returns-clause-absent c all =
    let none = ap (lookup (is_at (nat_cmp c.args.t))) c.self.view_is ∙ lookup-absent c.args.self.now c.args.t all in
    rw (c.remove.ensures.value ∙ none) at c.remove.ensures.unchanged ∙ c.self.view_is
