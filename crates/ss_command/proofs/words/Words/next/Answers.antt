use Rattle.std.proofs.Common.{◌≡◌, ◌∙◌, ap, sym, length, refl, arith}
use Rattle.std.proofs.lemmas.Bool.Decides.{nat_tests}
use Rattle.std.proofs.lemmas.List.{nil_from_length}
use Rattle.ss_command.specs.Words.{words}
use Rattle.ss_command.proofs.WordLemmas.{words-nil}
use Rattle.ss_command.proofs.words.Words.next.Goals as goal

pub returns-then-is_empty : goal.returns-then-is_empty
returns-then-is_empty c =
    let none : length c.without_blanks-line.result.now ≡ 0 = grind (arith, nat_tests) in
    (sym c.self.view_is ∙ c.without_blanks-line.ensures.words ∙ ap words (nil_from_length c.without_blanks-line.result.now none) ∙ words-nil, refl)
