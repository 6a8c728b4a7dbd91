use Rattle.ss_codec.proofs.RecordLemmas.{IsStream-is_valid, is_valid-IsStream}
use Rattle.ss_codec.proofs.laws.which_streams_are_valid.Goals as goal

pub returns : goal.returns
returns c id name params dropped = (
  λ valid. let is = IsStream-is_valid id name params dropped valid in (is.number, is.named, is.ranged, is.step_fits),
  λ is. is_valid-IsStream id name params dropped is.0 is.1 is.2 is.3,
)
