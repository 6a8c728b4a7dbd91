use Rattle.ss_program.proofs.Common.{◌∙◌, ap, Answered, plain_after, replies}
use Rattle.ss_promises.proofs.LawLemmas.{estimate-line, lines-leave, replies-around}
use Rattle.ss_promises.proofs.laws.guesses_lie_between_the_ends.Goals as goal

pub returns : goal.returns
returns c history ls before after line query whole are means asked none =
    let it = estimate-line (plain_after history before) line query (lines-leave history before whole) means asked none in
    let told = ap (λ l. replies history l) are ∙ replies-around history before after line (Answered it.0) it.1 in
    (it.0, told, it.2, it.3, it.4, it.5)
