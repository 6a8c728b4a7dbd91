use Rattle.std.proofs.Common.{◌≡◌, ◌∙◌, ◌++◌, ap, arith, List, ℕ, length}
use Rattle.std.specs.Fmt.{decimal}
use Rattle.ss_command.proofs.PutLemmas.{length-decimal_64}
use Rattle.ss_report.proofs.text.begin_with_number.Goals as goal

pub returns-clause-short : goal.returns-clause-short
returns-clause-short c =
    let bytes : c.print_u64.new.out.bytes ≡ decimal c.args.number = c.print_u64.ensures ∙ ap (λ before. before ++ decimal c.args.number) c.requires in
    omega (arith, ap (λ (text : List ℕ). length text) bytes, length-decimal_64 c.args.number (omega arith))
