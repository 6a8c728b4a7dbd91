use Rattle.std.proofs.Common.{◌∙◌, ap, sym}
use Rattle.ss_codec.specs.declared.record.Record.TheVariants.{Free}
use Rattle.ss_codec.specs.Decoded.{decoded}
use Rattle.ss_codec.proofs.RecordLemmas.{Spells-decoded, decoded-spelling, is_valid-free, spelling-free}
use Rattle.ss_codec.proofs.laws.free_slots_are_zeros.Goals as goal

pub returns : goal.returns
returns c bytes = (
  λ found. (Spells-decoded bytes Free found).spelled ∙ spelling-free,
  λ zeros. ap decoded (zeros ∙ sym spelling-free) ∙ decoded-spelling Free is_valid-free,
)
