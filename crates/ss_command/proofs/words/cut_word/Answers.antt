use Rattle.std.proofs.Common.{◌≡◌, ◌<◌, ◌∙◌, ◌∷◌, ap, sym, length, false, true, take, get_or, Bool, arith, ℕ, zero, suc}
use Rattle.std.proofs.lemmas.List.{drop_all, take_rest}
use Rattle.std.proofs.lemmas.List.Quantifiers.{position-Some}
use Rattle.ss_command.specs.Words.{is_blank, words}
use Rattle.ss_command.proofs.WordLemmas.{position-None, words-first, words-last, words-nil}
use Rattle.ss_command.proofs.words.cut_word.Goals as goal

-- a blank isn't in front
behind : (place : ℕ) (test : ℕ → Bool) → test 0 ≡ false → test place ≡ true → 0 < place
behind zero test front here = cc
behind (suc place) test front here = omega arith

pub returns-in-Some : goal.returns-in-Some
returns-in-Some c =
    let line = c.args.line.now in
    let at = position-Some is_blank line c.in-Some.end 0 (sym c.first_blank.ensures ∙ c.in-Some.is) in
    words-first line c.in-Some.end (behind c.in-Some.end (λ k. is_blank (get_or line k 0)) c.requires.front at.1) at.0 at.2 at.1 ∙
    ap (λ rest. take c.in-Some.end line ∷ words rest) (sym (take_rest line c.in-Some.end))

pub returns-in-None : goal.returns-in-None
returns-in-None c =
    let line = c.args.line.now in
    let none = position-None is_blank line (sym c.first_blank.ensures ∙ c.in-None.is) in
    words-last line c.requires.some none ∙
    ap (λ rest. line ∷ rest) (sym (ap words (take_rest line (length line) ∙ drop_all (length line) line (omega arith)) ∙ words-nil))
