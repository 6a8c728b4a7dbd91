use Rattle.ss_laws.proofs.SizeLemmas.{records-alone, records-few, steps_met-alone}
use Rattle.ss_laws.proofs.size_laws.records_are_few.Goals as goal

pub returns-clause-steps : goal.returns-clause-steps
returns-clause-steps c = records-few

pub returns-clause-alone : goal.returns-clause-alone
returns-clause-alone c = records-alone

pub returns-clause-one_step : goal.returns-clause-one_step
returns-clause-one_step c = steps_met-alone
