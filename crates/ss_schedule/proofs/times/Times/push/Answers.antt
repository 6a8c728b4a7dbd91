use Rattle.std.proofs.Common.{◌∙◌, ℕ, List, ap}
use Rattle.std.specs.BTreeMap.{insert_entry}
use Rattle.std.specs.Ordering.{nat_cmp}
use Rattle.ss_line.specs.declared.entry.At.{At}
use Rattle.ss_schedule.proofs.OrderLemmas.{insert_entry-last}
use Rattle.ss_schedule.proofs.times.Times.push.Goals as goal

pub returns-clause-ok : goal.returns-clause-ok
returns-clause-ok c =
    c.in_ok-insert.ensures.entries ∙ ap (λ (es : List (ℕ × At)). insert_entry nat_cmp es c.args.t c.args.at) c.self.view_is ∙
    insert_entry-last c.args.self.now c.args.t c.args.at c.requires
