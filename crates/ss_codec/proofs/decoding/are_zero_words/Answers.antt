use Rattle.std.proofs.Common.{◌≡◌, ◌-◌, ◌*◌, ◌+◌, arith, refl}
use Rattle.std.proofs.lemmas.Bool.Decides.{nat_tests}
use Rattle.ss_codec.proofs.ZeroLemmas.{zeros-word}
use Rattle.ss_codec.proofs.decoding.are_zero_words.Goals as goal

pub loop-word-preserved : goal.loop-word-preserved
loop-word-preserved c =
    let word = zeros-word c.args.bytes.now (8 * c.loop-word.word) (8 * (c.args.to - c.loop-word.word)) (8 * (c.loop-word.word + 1))
    (8 * (c.args.to - (c.loop-word.word + 1))) (omega arith) (omega arith) (omega arith) c.fits-bytes in
    record { rest = grind (arith, nat_tests, word, c.loop-word.invariant.rest) }

pub returns-then-get_u64-ne0 : goal.returns-then-get_u64-ne0
returns-then-get_u64-ne0 c =
    let word = zeros-word c.args.bytes.now (8 * c.loop-word.word) (8 * (c.args.to - c.loop-word.word)) (8 * (c.loop-word.word + 1))
    (8 * (c.args.to - (c.loop-word.word + 1))) (omega arith) (omega arith) (omega arith) c.fits-bytes in
    grind (arith, nat_tests, word, c.loop-word.invariant.rest)

pub returns : goal.returns
returns c =
    let none : 8 * (c.args.to - c.loop-word.word) ≡ 0 = omega arith in
    rw (c.loop-word.invariant.rest, none) refl
