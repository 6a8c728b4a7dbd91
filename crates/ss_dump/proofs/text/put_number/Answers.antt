use Rattle.std.proofs.Common.{◌≡◌, ◌∙◌, ◌++◌, List, ℕ, ap, length, length-append, arith}
use Rattle.std.specs.Fmt.{decimal}
use Rattle.ss_dump.proofs.DigitLemmas.{length-decimal_64}
use Rattle.ss_dump.proofs.text.put_number.Goals as goal

pub returns-clause-short : goal.returns-clause-short
returns-clause-short c =
    let word : c.as_str.result.now ≡ decimal c.args.number =
    c.as_str.ensures.value ∙ c.print_u64.ensures ∙ ap (λ before. before ++ decimal c.args.number) c.new-word.ensures in
    let long = ap (λ (text : List ℕ). length text) word in
    let grown = ap (λ (text : List ℕ). length text) c.push_str.ensures.bytes in
    omega (arith, long, grown, length-append c.args.out.now.bytes c.as_str.result.now, length-decimal_64 c.args.number (omega arith))

pub push_str-requires : goal.push_str-requires
push_str-requires c =
    let word : c.as_str.result.now ≡ decimal c.args.number =
    c.as_str.ensures.value ∙ c.print_u64.ensures ∙ ap (λ before. before ++ decimal c.args.number) c.new-word.ensures in
    let long = ap (λ (text : List ℕ). length text) word in
    omega (arith, long, c.requires, length-decimal_64 c.args.number (omega arith))
