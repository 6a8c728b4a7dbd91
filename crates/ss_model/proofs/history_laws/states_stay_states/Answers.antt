use Rattle.ss_model.proofs.StandLemmas.{IsState-nil, IsState-stepped}
use Rattle.ss_model.proofs.HistoryLemmas.{IsState-state}
use Rattle.ss_model.proofs.history_laws.states_stay_states.Goals as goal

pub returns-clause-start : goal.returns-clause-start
returns-clause-start c = IsState-nil

pub returns-clause-step : goal.returns-clause-step
returns-clause-step c = IsState-stepped

pub returns-clause-histories : goal.returns-clause-histories
returns-clause-histories c = IsState-state
