use Rattle.std.proofs.Common.{◌+◌, arith, refl, ap, ◌∙◌}
use Rattle.std.proofs.lemmas.List.{take_all}
use Rattle.std.proofs.lemmas.Bool.Decides.{nat_tests}
use Rattle.std.proofs.lemmas.Str.Parse.{digit_at}
use Rattle.ss_fields.specs.Words.{number_of}
use Rattle.ss_fields.proofs.WordLemmas.{number_of-take_more, number_of-take-le}
use Rattle.ss_fields.proofs.digits.spelled_number.Goals as goal

pub loop-digit-init : goal.loop-digit-init
unfolding number_of
loop-digit-init c = record { counted = refl; fits = omega arith }

pub with_digit-requires-clause-low : goal.with_digit-requires-clause-low
with_digit-requires-clause-low c = (digit_at c.args.word.now c.loop-digit.digit-index c.requires (omega arith)).0

pub with_digit-requires-clause-high : goal.with_digit-requires-clause-high
with_digit-requires-clause-high c = (digit_at c.args.word.now c.loop-digit.digit-index c.requires (omega arith)).1

pub returns-in_err-value : goal.returns-in_err-value
returns-in_err-value c =
    let more = number_of-take_more c.args.word.now c.loop-digit.digit-index c.requires (omega arith) in
    let less = number_of-take-le c.args.word.now (c.loop-digit.digit-index + 1) in
    grind (arith, nat_tests)

pub loop-digit-preserved : goal.loop-digit-preserved
loop-digit-preserved c =
    let more = number_of-take_more c.args.word.now c.loop-digit.digit-index c.requires (omega arith) in
    record { counted = grind (arith, nat_tests); fits = grind (arith, nat_tests) }

pub returns : goal.returns
returns c =
    let value = c.loop-digit.invariant.counted ∙ ap number_of (take_all c.loop-digit.digit-index c.args.word.now (omega arith)) in
    grind (arith, nat_tests)
