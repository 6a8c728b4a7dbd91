use Rattle.ss_checksum.proofs.CodewordLemmas.{fronts}
use Rattle.ss_checksum.proofs.laws.fronts_are_told.Goals as goal

pub returns : goal.returns
returns c = fronts
