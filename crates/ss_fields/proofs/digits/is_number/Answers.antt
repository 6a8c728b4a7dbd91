use Rattle.std.proofs.Common.{◌≡◌, arith, rules, tests}
use Rattle.std.proofs.lemmas.Bool.Decides.{nat_tests}
use Rattle.std.proofs.lemmas.Iterator.{YieldsList-from_slice}
use Rattle.std.proofs.lemmas.Iterator.Search.{all_from_yields_List}
use Rattle.std.specs.Char.{is_ascii_digit}
use Rattle.std.specs.List.{list_all}
use Rattle.ss_fields.specs.Words.{is_number}
use Rattle.ss_fields.proofs.digits.is_number.Goals as goal

pub returns-then-not-is_empty : goal.returns-then-not-is_empty
unfolding is_number
returns-then-not-is_empty c =
    let all : c.all.result ≡ list_all is_ascii_digit c.args.word.now =
    all_from_yields_List is_ascii_digit _ _ _ c.all.ensures.ran (YieldsList-from_slice c.args.word.now cc) (λ x b q k. search (rules, tests)) in
    grind (arith, nat_tests)

pub returns-else-not-is_empty : goal.returns-else-not-is_empty
unfolding is_number
returns-else-not-is_empty c = grind (arith, nat_tests)
