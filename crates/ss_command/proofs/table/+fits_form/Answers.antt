use Rattle.std.proofs.Common.{ap, sym, ◌∙◌}
use Rattle.ss_command.proofs.TableLemmas.{fits_form-no_words}
use Rattle.ss_command.proofs.table.+fits_form.Goals as goal
use Rattle.ss_command.specs.Table.{fits_form}

pub returns-in-None : goal.returns-in-None
returns-in-None t c =
    sym (ap (λ ws. fits_form c.args.fields.now ws) c.in-None.ensures.0 ∙ fits_form-no_words c.args.fields.now c.in-len1-up.len_at_least)
