use Rattle.std.proofs.Common.{length}
use Rattle.ss_command.proofs.table.+fits_form.Given as goal

abbrev pub decreases-fits_form : goal.decreases-fits_form
decreases-fits_form l = length l.fields.now
