use Rattle.std.proofs.Common.{drop, ap, sym, ◌≡◌, true, ◌∙◌}
use Rattle.std.specs.List.{list_any}
use Rattle.std.specs.Str.Parse.{starts_with_minus}
use Rattle.std.proofs.lemmas.List.{take_rest}
use Rattle.ss_arguments.specs.Modes.{words_of}
use Rattle.ss_arguments.proofs.ModeLemmas.{mode_asked-option, mode_of-drop}
use Rattle.ss_arguments.proofs.reading.mode_of.Goals as goal

pub returns-then-has_option-clause-mode : goal.returns-then-has_option-clause-mode
returns-then-has_option-clause-mode c =
    let option : list_any starts_with_minus (words_of (drop 2 c.args.words.now)) ≡ true =
    ap (λ words. list_any starts_with_minus (words_of words)) (sym (take_rest c.args.words.now 2)) ∙ sym c.has_option.ensures ∙ c.if-has_option.true in
    sym (mode_of-drop c.args.words.now c.if-words-lt2.false ∙ mode_asked-option (words_of (drop 2 c.args.words.now)) option)
