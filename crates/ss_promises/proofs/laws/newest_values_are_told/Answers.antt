use Rattle.ss_program.proofs.Common.{◌∙◌, ap, plain_after, replies}
use Rattle.ss_report.specs.declared.reply.Reply.TheVariants.{Last as LastLine}
use Rattle.ss_promises.proofs.LawLemmas.{lines-leave, replies-around}
use Rattle.ss_promises.proofs.NewestLaws.{last-line}
use Rattle.ss_promises.proofs.laws.newest_values_are_told.Goals as goal

pub returns : goal.returns
returns c history ls before after line name whole are means none =
    let it = last-line (plain_after history before) line name (lines-leave history before whole) means none in
    (it.0, ap (λ l. replies history l) are ∙ replies-around history before after line (LastLine it.0) it.1, it.2)
