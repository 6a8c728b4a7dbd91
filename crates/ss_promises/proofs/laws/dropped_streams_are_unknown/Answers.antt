use Rattle.ss_program.proofs.Common.{◌∙◌, ◌++◌, ◌∷◌, ap, Unknown, Refused, replies}
use Rattle.ss_promises.proofs.LawLemmas.{replies-around}
use Rattle.ss_promises.proofs.UnknownLemmas.{created-empty, query-dropped}
use Rattle.ss_promises.proofs.laws.dropped_streams_are_unknown.Goals as goal

pub returns-clause-unknown : goal.returns-clause-unknown
returns-clause-unknown c history ls before between after dropping line query are drops spared means =
    ap (λ l. replies history l) are
    ∙ replies-around history (before ++ dropping ∷ between) after line (Refused Unknown)
    (query-dropped history before between dropping line query drops spared means)

pub returns-clause-anew : goal.returns-clause-anew
returns-clause-anew c = created-empty
