use Rattle.std.proofs.Common.{sym, ◌∙◌}
use Rattle.ss_arguments.proofs.ModeLemmas.{mode_asked-other}
use Rattle.ss_arguments.proofs.reading.read_mode.Goals as goal

pub returns-in_default : goal.returns-in_default
returns-in_default c =
    c.read_formed-in_default.ensures ∙ sym (mode_asked-other _ c.args.words.now c.in-len1-up.len_at_least c.in_default.not-run
    c.in_default.not-check c.in_default.not-gen c.in_default.not-sessions c.in_default.not-frames c.in_default.not-follow)
