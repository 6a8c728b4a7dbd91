use Rattle.std.proofs.Common.{sym, ◌∙◌, arith}
use Rattle.ss_command.proofs.NumberLemmas.{or_number-Err, or_number-Ok, or_number-past}
use Rattle.ss_sessions.specs.declared.TheConstants.{MOST_ASKED}
use Rattle.ss_sessions.proofs.grammar.read_row_count.Goals as goal

pub returns-in-Ok-clause-value : goal.returns-in-Ok-clause-value
returns-in-Ok-clause-value c =
    sym (or_number-Ok MOST_ASKED c.in-Ok.count c.args.word.now (sym c.read_u64.ensures ∙ c.in-Ok.is) (rw c.from.ensures at c.if-count-from.true))

pub returns-in_default-clause-value : goal.returns-in_default-clause-value
returns-in_default-clause-value c =
    sym (or_number-past MOST_ASKED c.in-Ok.count c.args.word.now (sym c.read_u64.ensures ∙ c.in-Ok.is) (rw c.from.ensures at c.if-count-from.false))

pub returns-in_default-2-clause-value : goal.returns-in_default-2-clause-value
returns-in_default-2-clause-value c =
    sym (or_number-Err MOST_ASKED c.args.word.now c.in_default.field-0 (sym c.read_u64.ensures ∙ c.in_default.is) (omega arith))
