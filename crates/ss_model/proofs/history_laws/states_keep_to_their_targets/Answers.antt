use Rattle.ss_model.proofs.ReadLemmas.{decay-state, decay-state_alone, within-state}
use Rattle.ss_model.proofs.WithinLemmas.{IsReadWithinTarget-read}
use Rattle.ss_model.proofs.history_laws.states_keep_to_their_targets.Goals as goal

pub returns-clause-decay : goal.returns-clause-decay
returns-clause-decay c = decay-state

pub returns-clause-decay_alone : goal.returns-clause-decay_alone
returns-clause-decay_alone c = decay-state_alone

pub returns-clause-within : goal.returns-clause-within
returns-clause-within c = within-state

pub returns-clause-read : goal.returns-clause-read
returns-clause-read c = IsReadWithinTarget-read
