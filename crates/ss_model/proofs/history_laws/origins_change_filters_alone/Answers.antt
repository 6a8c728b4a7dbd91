use Rattle.ss_model.proofs.OriginLemmas.{history-old, old-history, state-old}
use Rattle.ss_model.proofs.history_laws.origins_change_filters_alone.Goals as goal

pub returns-clause-state : goal.returns-clause-state
returns-clause-state c = state-old

pub returns-clause-history : goal.returns-clause-history
returns-clause-history c history = (old-history history, history-old history)
