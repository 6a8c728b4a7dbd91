use Rattle.std.proofs.Common.{arith}
use Rattle.ss_generator.proofs.CommandLemmas.{is_name-stream}
use Rattle.ss_generator.proofs.commands.stream.Goals as goal

pub unreachable-requires : goal.unreachable-requires
unreachable-requires c = grind (arith, is_name-stream, c.of.ensures, c.in-None.is)
