use Rattle.std.proofs.Common.{ap, arith, List, ℕ, length, length-append}
use Rattle.std.specs.Fmt.{decimal}
use Rattle.ss_command.proofs.PutLemmas.{length-decimal_64}
use Rattle.ss_report.proofs.certificates.put_run.Goals as goal

pub print_u64-requires : goal.print_u64-requires
print_u64-requires c = omega (arith, c.requires, c.put_value.ensures.short, c.push_str.ensures.len)

pub returns-then-run-gt0-clause-short : goal.returns-then-run-gt0-clause-short
returns-then-run-gt0-clause-short c =
    omega (
      arith,
      c.put_value.ensures.short,
      c.push_str.ensures.len,
      ap (λ (text : List ℕ). length text) c.print_u64.ensures,
      length-append c.push_str.new.self.bytes (decimal c.args.run.now.times),
      length-decimal_64 c.args.run.now.times (omega arith),
    )
