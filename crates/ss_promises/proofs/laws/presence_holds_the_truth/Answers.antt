use Rattle.ss_program.proofs.Common.{◌∙◌, ap, Has, Answered, plain_after, replies}
use Rattle.ss_promises.proofs.LawLemmas.{lines-leave, presence-line, replies-around}
use Rattle.ss_promises.proofs.laws.presence_holds_the_truth.Goals as goal

pub returns : goal.returns
returns c history ls before after line query value whole are means asked none =
    let it = presence-line (plain_after history before) line query value (lines-leave history before whole) means asked none in
    (it.0, ap (λ l. replies history l) are ∙ replies-around history before after line (Answered (Has it.0)) it.1, it.2)
