use Rattle.std.proofs.Common.{arith}
use Rattle.std.proofs.lemmas.List.{places}
use Rattle.libsummarystore.proofs.image.read_from.Goals as goal

pub returns : goal.returns
returns c = λ k lt. grind (arith, places)
