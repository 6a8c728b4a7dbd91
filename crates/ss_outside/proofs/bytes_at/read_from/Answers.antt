use Rattle.std.proofs.Common.{arith}
use Rattle.std.proofs.lemmas.List.{places}
use Rattle.ss_outside.proofs.bytes_at.read_from.Goals as goal

pub returns : goal.returns
returns c = λ k lt. grind (arith, places)
