use Rattle.std.proofs.lemmas.Int.{to_z-of_z}
use Rattle.std.specs.Fmt.{signed_decimal}
use Rattle.std.specs.Int.{w64}
use Rattle.ss_command.proofs.PutLemmas.{length-put, length-signed_64}
use Rattle.ss_command.proofs.put.put_value.Goals as goal

pub returns-clause-short : goal.returns-clause-short
returns-clause-short c =
    let printed = rw (to_z-of_z w64 c.args.value c.ranges.value) at c.print_i64.ensures in
    length-put c.print_i64.new.out.bytes c.push_str.new.self.bytes c.args.out.now.bytes (signed_decimal c.args.value) 20 printed
    c.push_str.ensures.bytes (length-signed_64 c.args.value c.ranges.value)
