use Rattle.std.proofs.Common.{◌≡◌, ◌<◌, ◌∙◌, ◌∷◌, [], ap, sym, length, take, arith, refl, ℕ, List, zero, suc}
use Rattle.std.proofs.lemmas.List.{drop_all, take_rest}
use Rattle.std.proofs.lemmas.List.Quantifiers.{position-Some}
use Rattle.ss_command.specs.Words.{is_blank, words}
use Rattle.ss_command.proofs.WordLemmas.{position-None, words-first, words-last, words-nil}
use Rattle.ss_command.proofs.words.cut_first.Goals as goal

-- a front that has some bytes ends after the first
after_front : (end : ℕ) (line : List ℕ) → 0 < length (take end line) → 0 < end
after_front zero line some = omega (arith, some)
after_front (suc end) line some = omega arith

-- no byte is no list
is_nil : (line : List ℕ) → length line ≡ 0 → line ≡ []
is_nil [] none = refl
is_nil (b ∷ bs) none = cc

pub returns-in-Some-clause-words : goal.returns-in-Some-clause-words
returns-in-Some-clause-words c = λ some.
    let line = c.without_blanks-line.result.now in
    let end = c.in-Some.end in
    let at = position-Some is_blank line end 0 (sym c.first_blank.ensures ∙ c.in-Some.is) in
    c.without_blanks-line.ensures.words ∙ words-first line end (after_front end line some) at.0 at.2 at.1 ∙
    ap (λ rest. take end line ∷ rest) (ap words (sym (take_rest line end)) ∙ c.without_blanks.ensures.words)

pub returns-in-None-clause-words : goal.returns-in-None-clause-words
returns-in-None-clause-words c = λ some.
    let line = c.without_blanks-line.result.now in
    let none = position-None is_blank line (sym c.first_blank.ensures ∙ c.in-None.is) in
    c.without_blanks-line.ensures.words ∙ words-last line some none ∙
    ap (λ rest. line ∷ rest) (sym (ap words (take_rest line (length line) ∙ drop_all (length line) line (omega arith)) ∙ words-nil))

pub returns-in-None-clause-none : goal.returns-in-None-clause-none
returns-in-None-clause-none c = λ none.
    c.without_blanks-line.ensures.words ∙ ap words (is_nil c.without_blanks-line.result.now none) ∙ words-nil
