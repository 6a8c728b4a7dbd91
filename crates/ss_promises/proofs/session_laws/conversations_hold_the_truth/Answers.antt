use Rattle.ss_program.proofs.Common.{◌∙◌, ap, refl, Ask, Certify, Last, Values, turn_brought}
use Rattle.ss_command.specs.declared.command.Command.TheVariants.{Series as AskRows}
use Rattle.ss_promises.proofs.ConversationLemmas.{asked-plain}
use Rattle.ss_promises.proofs.LawLemmas.{answered-line, answered-series, certified-line, estimate-line, presence-line}
use Rattle.ss_promises.proofs.NewestLaws.{last-line, values-line}
use Rattle.ss_promises.proofs.session_laws.conversations_hold_the_truth.Goals as goal

pub returns-clause-query : goal.returns-clause-query
returns-clause-query c talk speaker line query whole asked none =
    let plain = asked-plain talk speaker (Ask query) line asked (λ framed. refl) in
    let it = answered-line talk.history plain.0 query whole plain.1 none in
    (it.0, plain.2 ∙ ap (turn_brought speaker talk) it.1, it.2, it.3, it.4)

pub returns-clause-presence : goal.returns-clause-presence
returns-clause-presence c talk speaker line query value whole asked is none =
    let plain = asked-plain talk speaker (Ask query) line asked (λ framed. refl) in
    let it = presence-line talk.history plain.0 query value whole plain.1 is none in
    (it.0, plain.2 ∙ ap (turn_brought speaker talk) it.1, it.2)

pub returns-clause-estimate : goal.returns-clause-estimate
returns-clause-estimate c talk speaker line query whole asked is none =
    let plain = asked-plain talk speaker (Ask query) line asked (λ framed. refl) in
    let it = estimate-line talk.history plain.0 query whole plain.1 is none in
    (it.0, plain.2 ∙ ap (turn_brought speaker talk) it.1, it.2, it.3, it.4, it.5)

pub returns-clause-series : goal.returns-clause-series
returns-clause-series c talk speaker line series whole asked none =
    let plain = asked-plain talk speaker (AskRows series) line asked (λ framed. refl) in
    let it = answered-series talk.history plain.0 series whole plain.1 none in
    (it.0, plain.2 ∙ ap (turn_brought speaker talk) it.1, it.2)

pub returns-clause-certificate : goal.returns-clause-certificate
returns-clause-certificate c talk speaker line query end whole asked none =
    let plain = asked-plain talk speaker (Certify query end) line asked (λ framed. refl) in
    let it = certified-line talk.history plain.0 query end whole plain.1 none in
    (it.0, plain.2 ∙ ap (turn_brought speaker talk) it.1, it.2)

pub returns-clause-newest : goal.returns-clause-newest
returns-clause-newest c talk speaker line name whole asked none =
    let plain = asked-plain talk speaker (Last name) line asked (λ framed. refl) in
    let it = last-line talk.history plain.0 name whole plain.1 none in
    (it.0, plain.2 ∙ ap (turn_brought speaker talk) it.1, it.2)

pub returns-clause-landmarks : goal.returns-clause-landmarks
returns-clause-landmarks c talk speaker line name from to asked none =
    let plain = asked-plain talk speaker (Values name from to) line asked (λ framed. refl) in
    let it = values-line talk.history plain.0 name from to plain.1 none in
    (it.0, plain.2 ∙ ap (turn_brought speaker talk) it.1, it.2)
