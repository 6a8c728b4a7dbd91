use Rattle.ss_codec.proofs.RecordLemmas.{IsWindow-is_valid, is_valid-IsWindow}
use Rattle.ss_codec.proofs.laws.which_windows_are_valid.Goals as goal

pub returns : goal.returns
returns c id first f = (
  λ valid. let is = IsWindow-is_valid id first f valid in (is.number, is.low, is.high, is.possible),
  λ is. is_valid-IsWindow id first f is.0 is.1 is.2 is.3,
)
