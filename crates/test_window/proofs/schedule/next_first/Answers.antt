use Rattle.std.proofs.Common.{◌∙◌, sym}
use Rattle.test_window.proofs.ScheduleLemmas.{next-first}
use Rattle.test_window.proofs.schedule.next_first.Goals as goal

pub returns : goal.returns
returns g c =
    next-first c.args.line.now.entries c.in-Some.at c.get.result c.checked_add.result _ c.len-len.ensures.line.apart (sym c.in-Some.is ∙ c.last.ensures.value)
    c.get.ensures.entry c.checked_add.ensures
