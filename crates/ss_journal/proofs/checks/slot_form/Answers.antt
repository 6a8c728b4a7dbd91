use Rattle.ss_journal.proofs.Common.{refl}
use Rattle.ss_journal.specs.Checks.{slot_form}
use Rattle.ss_journal.proofs.checks.slot_form.Goals as goal

pub returns-in-Plain : goal.returns-in-Plain
unfolding slot_form
returns-in-Plain c = rw c.in-Plain.is refl
