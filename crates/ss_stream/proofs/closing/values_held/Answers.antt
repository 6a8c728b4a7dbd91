use Rattle.ss_stream.proofs.Common.{sym, ◌∙◌}
use Rattle.ss_stream.proofs.closing.values_held.Goals as goal
use Rattle.ss_stream.proofs.LastEntries.{values_held-last}

pub returns-in-Some-clause-value : goal.returns-in-Some-clause-value
returns-in-Some-clause-value g c =
    values_held-last c.args.part.now.line.entries c.in-Some.at c.get.result c.len.ensures.line.apart (sym c.in-Some.is ∙ c.last.ensures.value)
    c.get.ensures.entry
