use Rattle.std.proofs.Common.{◌≡◌, ◌+◌, ◌∙◌, ap, sym, length, Bool, true, false, not, arith}
use Rattle.std.proofs.lemmas.List.{drop_all, get_or-drop, take_rest}
use Rattle.std.proofs.lemmas.List.Quantifiers.{position-Some}
use Rattle.ss_command.specs.Words.{is_blank, words}
use Rattle.ss_command.proofs.WordLemmas.{position-None, words-drop_blanks, words-blanks, words-nil}
use Rattle.ss_command.proofs.words.without_blanks.Goals as goal

true_from_not : (b : Bool) → not b ≡ false → b ≡ true
true_from_not true e = cc
true_from_not false e = cc

false_from_not : (b : Bool) → not b ≡ true → b ≡ false
false_from_not true e = cc
false_from_not false e = cc

pub returns-in-Some-clause-words : goal.returns-in-Some-clause-words
returns-in-Some-clause-words c =
    let line = c.args.line.now in
    let at = position-Some (λ b. not (is_blank b)) line c.in-Some.start 0 (sym c.first_of_word.ensures ∙ c.in-Some.is) in
    words-drop_blanks c.in-Some.start line (λ k below. true_from_not _ (at.2 k below)) (omega arith) ∙ ap words (sym (take_rest line c.in-Some.start))

pub returns-in-Some-clause-front : goal.returns-in-Some-clause-front
returns-in-Some-clause-front c = λ some.
    let line = c.args.line.now in
    let at = position-Some (λ b. not (is_blank b)) line c.in-Some.start 0 (sym c.first_of_word.ensures ∙ c.in-Some.is) in
    let place : c.in-Some.start + 0 ≡ c.in-Some.start = omega arith in
    rw (take_rest line c.in-Some.start, get_or-drop c.in-Some.start line 0 0, place) (false_from_not _ at.1)

pub returns-in-None-clause-words : goal.returns-in-None-clause-words
returns-in-None-clause-words c =
    let line = c.args.line.now in
    let none = position-None (λ b. not (is_blank b)) line (sym c.first_of_word.ensures ∙ c.in-None.is) in
    words-blanks line (λ k below. true_from_not _ (none k below)) ∙
    sym (ap words (take_rest line (length line) ∙ drop_all (length line) line (omega arith)) ∙ words-nil)
