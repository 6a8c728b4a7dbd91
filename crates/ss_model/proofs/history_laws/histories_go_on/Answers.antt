use Rattle.ss_model.proofs.HistoryLemmas.{IsHistory-nil, IsHistory_push, GoesOn-push}
use Rattle.ss_model.proofs.history_laws.histories_go_on.Goals as goal

pub returns-clause-start : goal.returns-clause-start
returns-clause-start c = IsHistory-nil

pub returns-clause-step : goal.returns-clause-step
returns-clause-step c history event origin = (
  (λ whole. let on = GoesOn-push history (event, origin) whole in (on.before, on.said, on.accepted)),
  (λ on. IsHistory_push history (event, origin) (record { before = on.0; said = on.1; accepted = on.2 })),
)
