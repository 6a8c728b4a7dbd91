use Rattle.std.proofs.Common.{◌≡◌, ◌++◌, take, drop, vec_len}
use Rattle.ss_arguments.specs.Modes.{words_of}
use Rattle.summarystore.specs.Plan.{behind_options, no_options, options_from}
use Rattle.summarystore.proofs.options.take_options.Given as goal

abbrev pub invariant-loop-switch : goal.invariant-loop-switch
invariant-loop-switch l =
    (options_from l.options (drop 1 (words_of l.words.items)) ≡ options_from no_options (drop 1 (words_of l.initial.words.items)))
    × (take 1 (words_of l.words.items) ++ behind_options (drop 1 (words_of l.words.items))
    ≡ take 1 (words_of l.initial.words.items) ++ behind_options (drop 1 (words_of l.initial.words.items)))

abbrev pub decreases-loop-switch : goal.decreases-loop-switch
decreases-loop-switch l = vec_len l.words
