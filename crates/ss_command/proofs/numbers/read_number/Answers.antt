use Rattle.std.proofs.Common.{sym, ◌∙◌, arith}
use Rattle.ss_command.proofs.NumberLemmas.{or_number-Err, or_number-Ok, or_number-past}
use Rattle.ss_command.proofs.numbers.read_number.Goals as goal

pub returns-in-Ok-clause-value : goal.returns-in-Ok-clause-value
returns-in-Ok-clause-value c =
    sym (or_number-Ok c.args.most c.in-Ok.number c.args.word.now (sym c.read_u64.ensures ∙ c.in-Ok.is) c.if-number-most.true)

pub returns-in_default-clause-value : goal.returns-in_default-clause-value
returns-in_default-clause-value c =
    sym (or_number-past c.args.most c.in-Ok.number c.args.word.now (sym c.read_u64.ensures ∙ c.in-Ok.is) c.if-number-most.false)

pub returns-in_default-2-clause-value : goal.returns-in_default-2-clause-value
returns-in_default-2-clause-value c =
    sym (or_number-Err c.args.most c.args.word.now c.in_default.field-0 (sym c.read_u64.ensures ∙ c.in_default.is) (omega arith))
