use Rattle.ss_checksum.proofs.CodewordLemmas.{bursts}
use Rattle.ss_checksum.proofs.laws.bursts_are_told.Goals as goal

pub returns : goal.returns
returns c = bursts
