use Rattle.std.proofs.Common.{ap, sym, ◌∙◌}
use Rattle.ss_command.proofs.TableLemmas.{read_fields-no_words}
use Rattle.ss_command.proofs.said.+read_fields.Goals as goal
use Rattle.ss_command.specs.Said.{read_fields}

pub returns-in-None-clause-value : goal.returns-in-None-clause-value
returns-in-None-clause-value t c =
    sym (ap (λ ws. read_fields c.args.fields.now ws c.args.said) c.in-None.ensures.0 ∙ read_fields-no_words c.args.fields.now c.args.said)
