use Rattle.std.proofs.Common.{sym, arith}
use Rattle.ss_arguments.proofs.ModeLemmas.{sealed-other}
use Rattle.ss_arguments.proofs.reading.read_sealed.Goals as goal

pub returns-in_default-word : goal.returns-in_default-word
returns-in_default-word c = sym (sealed-other c.args.form _ c.args.words.now (omega arith) c.in_default-word.not-batch)
