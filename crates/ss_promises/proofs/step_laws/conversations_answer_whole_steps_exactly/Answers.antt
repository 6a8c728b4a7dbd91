use Rattle.ss_program.proofs.Common.{◌∙◌, ap, refl, Ask, turn_brought}
use Rattle.ss_command.specs.declared.command.Command.TheVariants.{Series as AskRows}
use Rattle.ss_promises.proofs.ConversationLemmas.{asked-plain}
use Rattle.ss_promises.proofs.WholeLemmas.{whole-line, whole-series}
use Rattle.ss_promises.proofs.step_laws.conversations_answer_whole_steps_exactly.Goals as goal

pub returns-clause-query : goal.returns-clause-query
returns-clause-query c talk speaker line query step whole asked none within steps =
    let plain = asked-plain talk speaker (Ask query) line asked (λ framed. refl) in
    let it = whole-line talk.history plain.0 query step whole plain.1 none within steps in
    (it.0, plain.2 ∙ ap (turn_brought speaker talk) it.1, it.2, it.3, it.4)

pub returns-clause-series : goal.returns-clause-series
returns-clause-series c talk speaker line series step whole asked none within steps =
    let plain = asked-plain talk speaker (AskRows series) line asked (λ framed. refl) in
    let it = whole-series talk.history plain.0 series step whole plain.1 none within steps in
    (it.0, plain.2 ∙ ap (turn_brought speaker talk) it.1, it.2)
