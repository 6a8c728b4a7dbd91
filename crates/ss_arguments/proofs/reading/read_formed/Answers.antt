use Rattle.std.proofs.Common.{sym, ◌∙◌}
use Rattle.ss_arguments.proofs.ModeLemmas.{formed-other}
use Rattle.ss_arguments.proofs.reading.read_formed.Goals as goal

pub returns-in_default : goal.returns-in_default
returns-in_default c =
    c.read_sealed-in_default.ensures ∙ sym (formed-other c.args.form _ c.args.words.now c.in-len1-up.len_at_least c.in_default.not-framed)
