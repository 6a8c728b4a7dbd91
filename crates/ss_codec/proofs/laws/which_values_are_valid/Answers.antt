use Rattle.ss_codec.proofs.RecordLemmas.{IsValue-is_valid, is_valid-IsValue}
use Rattle.ss_codec.proofs.laws.which_values_are_valid.Goals as goal

pub returns : goal.returns
returns c id number index t v = (
  λ valid. let is = IsValue-is_valid id number index t v valid in (is.stream, is.low, is.high, is.index_low, is.index_high, is.early, is.fits),
  λ is. is_valid-IsValue id number index t v is.0 is.1 is.2 is.3 is.4 is.5 is.6,
)
