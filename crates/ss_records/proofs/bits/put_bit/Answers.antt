use Rattle.std.proofs.Common.{ap, ◌∙◌, ℕ, ◌%◌, cond, nat_eq}
use Rattle.std.proofs.lemmas.Grind.{get_or_default_zero}
use Rattle.std.specs.Int.{bit_at}
use Rattle.ss_records.proofs.BitLemmas.{digit, is_set-put}
use Rattle.ss_records.proofs.bits.put_bit.Goals as goal

pub returns-clause-bits : goal.returns-clause-bits
returns-clause-bits c j =
    let words = c.args.words.now.items in
    let old = c.index.ensures ∙ get_or_default_zero words _ _ c.requires in
    is_set-put words c.with_bit-word.result c.args.k c.args.to c.requires
    (λ i lt. c.with_bit-word.ensures i lt ∙ ap (λ (w : ℕ). cond (nat_eq i (c.args.k % 64)) (digit c.args.to) (bit_at w i)) old) j
