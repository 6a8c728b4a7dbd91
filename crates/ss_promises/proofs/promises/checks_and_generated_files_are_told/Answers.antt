use Rattle.ss_program.specs.declared.status.Status.TheVariants.{Done}
use Rattle.ss_program.proofs.Common.{None, refl}
use Rattle.ss_promises.proofs.promises.checks_and_generated_files_are_told.Goals as goal

pub returns-clause-check_unwritten : goal.returns-clause-check_unwritten
returns-clause-check_unwritten g c held holds number status checks is told = (checks refl status is told).unwritten

pub returns-clause-checked : goal.returns-clause-checked
returns-clause-checked g c held holds number checks is told streams recovers = ((checks refl Done is told).says streams recovers).whole refl

pub returns-clause-generated : goal.returns-clause-generated
returns-clause-generated g c held holds number seed count generates is durable told history stands =
    (generates seed count refl Done is told (durable told) None history (stands, tt)).whole refl
