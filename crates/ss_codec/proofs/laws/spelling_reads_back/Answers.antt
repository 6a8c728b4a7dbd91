use Rattle.ss_codec.proofs.RecordLemmas.{decoded-spelling}
use Rattle.ss_codec.proofs.laws.spelling_reads_back.Goals as goal

pub returns : goal.returns
returns c = decoded-spelling
