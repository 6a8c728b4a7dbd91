use Rattle.std.proofs.Common.{◌∙◌, ◌++◌, ap, arith}
use Rattle.ss_checksum.specs.Checksum.{checksum}
use Rattle.ss_dump.proofs.SumLemmas.{goes-on}
use Rattle.ss_dump.proofs.summing.further.Goals as goal

pub returns : goal.returns
returns c front is =
    c.checksum.ensures
    ∙ ap (λ first. checksum (first ++ c.args.bytes.now)) c.to_le_bytes-front.ensures
    ∙ goes-on c.front_of.result c.args.sum front c.args.bytes.now (omega (arith, c.front_of.type_inv)) c.front_of.ensures is
