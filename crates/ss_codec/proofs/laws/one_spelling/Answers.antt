use Rattle.ss_codec.proofs.RecordLemmas.{same-spelling}
use Rattle.ss_codec.proofs.laws.one_spelling.Goals as goal

pub returns : goal.returns
returns c = same-spelling
