use Rattle.ss_model.proofs.WholeLemmas.{whole-exact, whole-rows, whole-to_the_last, whole-unsplit, whole-windows}
use Rattle.ss_model.proofs.step_laws.whole_steps_are_exact.Goals as goal

pub returns-clause-windows : goal.returns-clause-windows
returns-clause-windows c = whole-windows

pub returns-clause-to_the_last : goal.returns-clause-to_the_last
returns-clause-to_the_last c = whole-to_the_last

pub returns-clause-unsplit : goal.returns-clause-unsplit
returns-clause-unsplit c = whole-unsplit

pub returns-clause-exact : goal.returns-clause-exact
returns-clause-exact c = whole-exact

pub returns-clause-rows : goal.returns-clause-rows
returns-clause-rows c = whole-rows
