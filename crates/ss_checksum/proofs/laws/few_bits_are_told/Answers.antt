use Rattle.ss_checksum.proofs.ParityLemmas.{odd}
use Rattle.ss_checksum.proofs.ReturnLemmas.{two}
use Rattle.ss_checksum.proofs.laws.few_bits_are_told.Goals as goal

pub returns : goal.returns
returns c = record { odd = odd; two = two }
