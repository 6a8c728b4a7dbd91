use Rattle.ss_codec.proofs.RecordLemmas.{IsLandmark-is_valid, is_valid-IsLandmark}
use Rattle.ss_codec.proofs.laws.which_landmarks_are_valid.Goals as goal

pub returns : goal.returns
returns c id number values start finish = (
  λ valid. let is = IsLandmark-is_valid id number values start finish valid in (is.stream, is.low, is.high, is.interval),
  λ is. is_valid-IsLandmark id number values start finish is.0 is.1 is.2 is.3,
)
