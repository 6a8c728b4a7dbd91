use Rattle.ss_journal.proofs.Common.{refl}
use Rattle.ss_journal.specs.Checks.{entry_form}
use Rattle.ss_journal.proofs.checks.entry_form.Goals as goal

pub returns-in-Plain : goal.returns-in-Plain
unfolding entry_form
returns-in-Plain c = rw c.in-Plain.is refl
