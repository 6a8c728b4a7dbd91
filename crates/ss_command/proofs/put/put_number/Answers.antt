use Rattle.std.proofs.Common.{arith}
use Rattle.std.specs.Fmt.{decimal}
use Rattle.ss_command.proofs.PutLemmas.{length-put, length-decimal_64}
use Rattle.ss_command.proofs.put.put_number.Goals as goal

pub returns-clause-short : goal.returns-clause-short
returns-clause-short c =
    length-put c.print_u64.new.out.bytes c.push_str.new.self.bytes c.args.out.now.bytes (decimal c.args.number) 20 c.print_u64.ensures
    c.push_str.ensures.bytes (length-decimal_64 c.args.number (omega arith))
