use Rattle.ss_program.proofs.Common.{◌∙◌, ap, Answered, plain_after, replies}
use Rattle.ss_promises.proofs.LawLemmas.{answered-line, lines-leave, replies-around}
use Rattle.ss_promises.proofs.laws.queries_hold_the_truth.Goals as goal

pub returns : goal.returns
returns c history ls before after line query whole are means none =
    let it = answered-line (plain_after history before) line query (lines-leave history before whole) means none in
    (it.0, ap (λ l. replies history l) are ∙ replies-around history before after line (Answered it.0) it.1, it.2, it.3, it.4)
