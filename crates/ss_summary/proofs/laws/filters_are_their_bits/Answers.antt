use Rattle.std.proofs.Common.{refl}
use Rattle.ss_summary.specs.Filters.{has}
use Rattle.ss_summary.proofs.FilterLemmas.{bit_of-lt, has_bit-filter_of, has_bit-full, has_bit-union}
use Rattle.ss_summary.proofs.laws.filters_are_their_bits.Goals as goal

pub returns-clause-one : goal.returns-clause-one
returns-clause-one c = has_bit-filter_of

pub returns-clause-all : goal.returns-clause-all
returns-clause-all c = has_bit-full

pub returns-clause-both : goal.returns-clause-both
returns-clause-both c = has_bit-union

pub returns-clause-value : goal.returns-clause-value
unfolding has
returns-clause-value c filter v = refl

pub returns-clause-range : goal.returns-clause-range
returns-clause-range c = bit_of-lt
