use Rattle.std.proofs.Common.{ap, arith, List, ℕ, length, length-append}
use Rattle.std.specs.Fmt.{decimal}
use Rattle.ss_command.proofs.PutLemmas.{length-decimal_64}
use Rattle.ss_report.proofs.means.put_under.Goals as goal

pub returns-clause-short : goal.returns-clause-short
returns-clause-short c =
    omega (
      arith,
      c.push_str.ensures.len,
      ap (λ (text : List ℕ). length text) c.print_u64.ensures,
      length-append c.push_str.new.self.bytes (decimal c.args.under),
      length-decimal_64 c.args.under (omega arith),
    )
