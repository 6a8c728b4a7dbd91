use Rattle.std.proofs.Common.{sym, ◌∙◌}
use Rattle.clap.specs.Words.{app_of}
use Rattle.ss_arguments.specs.Modes.{words_of}
use Rattle.ss_arguments.proofs.PlaceLemmas.{mode_asked-error, mode_asked-matches}
use Rattle.ss_arguments.proofs.reading.read_words.Goals as goal

pub returns-in-Ok : goal.returns-in-Ok
returns-in-Ok c =
    let same = mode_asked-matches (app_of c.in_ok-three_words.field-0) (words_of c.args.words.now) c.in-Ok.matches c.in_ok-three_words.ensures c.requires
    c.in-Ok.ensures.kinds c.in-Ok.ensures.matches in
    cc

pub returns : goal.returns
returns c =
    sym (mode_asked-error (app_of c.in_ok-three_words.field-0) (words_of c.args.words.now) c.in-Err.error c.in_ok-three_words.ensures c.requires
    c.in-Err.ensures.kinds
    (λ memory. c.in_default.not-OutOfMemory (c.kind.ensures ∙ memory)))
