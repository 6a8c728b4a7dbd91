-- The words that ask for a mode, as a command of `clap` puts them into places.
use Rattle.std.specs.Prelude.{ℕ, true, List, [], ◌∷◌, map, codes, Option, Some, None}
use Rattle.std.specs.Borrow.{Bor}
use Rattle.clap.specs.Words.{App, new_app, new_rule, with_rule}
use Rattle.clap.specs.Simple.{on_top}
use Rattle.ss_arguments.specs.Modes.{mode_asked}
use Rattle.ss_arguments.specs.declared.mode.Mode.{Mode}

-- the command: three optional words, with no program's name before them
abbrev pub three_words : App
three_words =
    with_rule (with_rule (with_rule (on_top (λ top. record top { no_binary_name = true }) (new_app (codes "summarystore")))
    (new_rule (codes "mode"))) (new_rule (codes "second"))) (new_rule (codes "third"))

-- borrowed words, as lists of bytes
abbrev pub words_said : List (Bor (List ℕ)) → List (List ℕ)
words_said words = map (λ word. word.now) words

-- the mode by the words in their places
abbrev pub by_place : Option (List ℕ) → Option (List ℕ) → Option (List ℕ) → Option Mode
by_place None None None = mode_asked []
by_place (Some first) None None = mode_asked (first ∷ [])
by_place (Some first) (Some second) None = mode_asked (first ∷ second ∷ [])
by_place (Some first) (Some second) (Some third) = mode_asked (first ∷ second ∷ third ∷ [])
by_place _ _ _ = None
