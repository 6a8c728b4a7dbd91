use Rattle.ss_codec.proofs.RecordLemmas.{Spells-decoded, decoded-Spells}
use Rattle.ss_codec.proofs.laws.decoded_is_what_is_spelled.Goals as goal

pub returns : goal.returns
returns c bytes r = (Spells-decoded bytes r, decoded-Spells bytes r)
