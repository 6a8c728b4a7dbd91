use Rattle.std.proofs.lemmas.Int.{to_z-of_z}
use Rattle.std.specs.Fmt.{signed_decimal}
use Rattle.std.specs.Int.{w128}
use Rattle.ss_command.proofs.PutLemmas.{length-put, length-signed_128}
use Rattle.ss_command.proofs.put.put_sum.Goals as goal

pub returns-clause-short : goal.returns-clause-short
returns-clause-short c =
    let printed = rw (to_z-of_z w128 c.args.sum c.ranges.sum) at c.print_i128.ensures in
    length-put c.print_i128.new.out.bytes c.push_str.new.self.bytes c.args.out.now.bytes (signed_decimal c.args.sum) 40 printed
    c.push_str.ensures.bytes (length-signed_128 c.args.sum c.ranges.sum)
