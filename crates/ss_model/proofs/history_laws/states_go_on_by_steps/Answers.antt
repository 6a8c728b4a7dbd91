use Rattle.ss_model.proofs.Common.{refl}
use Rattle.ss_model.specs.State.{state}
use Rattle.ss_model.proofs.StepLemmas.{state-push}
use Rattle.ss_model.proofs.history_laws.states_go_on_by_steps.Goals as goal

pub returns-clause-start : goal.returns-clause-start
unfolding state
returns-clause-start c = refl

pub returns-clause-step : goal.returns-clause-step
returns-clause-step c = state-push
