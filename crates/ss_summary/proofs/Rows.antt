-- Worked rows, each computed.
use Rattle.std.specs.Prelude.{◌≡◌, ◌^◌, ℤ, pos, negsuc, ◌≤ℤ◌, map, [], ◌∷◌}
use Rattle.std.proofs.Common.{refl, arith, lit≤}
use Rattle.std.proofs.lemmas.Int.{ints}
use Rattle.ss_summary.specs.Figures.{Figures, IsPossible}
use Rattle.ss_summary.specs.Filters.{bit_of, filter_of, full, union}
use Rattle.ss_summary.specs.Points.{New, Old}
use Rattle.ss_summary.proofs.FilterLemmas.{has-full, IsFilter-full}
use Rattle.ss_summary.specs.Summaries.{summary_of, RiseFrom}

-- the values 5, -3, 8 and 1 at the times 10, 20, 30 and 40
pub summary_of-row : summary_of ((10, pos 5, New) ∷ (20, negsuc 2, New) ∷ (30, pos 8, New) ∷ (40, pos 1, New) ∷ []) ≡ record {
  count = 4;
  sum = pos 11;
  min = negsuc 2;
  max = pos 8;
  t_first = 10;
  t_last = 40;
  filter = record { words = 0x0000002000800000 ∷ 0 ∷ 0x0000000040000000 ∷ 0x0002000000000000 ∷ [] };
}
unfolding bit_of filter_of union
summary_of-row = refl

-- three values from 1 to 5 may have any sum from 7 to 11, and no other
three : ℤ → Figures
three sum = record { count = 3; sum = sum; min = pos 1; max = pos 5; t_first = 10; t_last = 12; filter = full }

IsPossible-three : (sum : ℤ) → pos 7 ≤ℤ sum → sum ≤ℤ pos 11 → IsPossible (three sum)
unfolding three
IsPossible-three sum low high = record {
  count_low = lit≤ tt;
  count_high = lit≤ tt;
  times = lit≤ tt;
  last = lit≤ tt;
  one = λ one. absurd (omega arith);
  min_fits = omega (arith, ints);
  max_fits = omega (arith, ints);
  order = omega (arith, ints);
  sum_low = low;
  sum_high = high;
  words = IsFilter-full;
  min_bit = has-full (pos 1);
  max_bit = has-full (pos 5);
}

three-IsPossible : (sum : ℤ) → IsPossible (three sum) → (pos 7 ≤ℤ sum) × (sum ≤ℤ pos 11)
unfolding three
three-IsPossible sum possible = (possible.sum_low, possible.sum_high)

-- equal times don't rise
RiseFrom-equal : RiseFrom 0 ((10, pos 5, New) ∷ (10, pos 6, Old) ∷ []) → ⊥
RiseFrom-equal rising = omega (arith, rising.3.0)

-- the bits of some values; those of 5 and of 238 are one
bits : map bit_of (pos 5 ∷ negsuc 2 ∷ pos 8 ∷ pos 1 ∷ pos 238 ∷ pos 300 ∷ pos 4 ∷ pos 0 ∷ negsuc 0 ∷ []) ≡ 23 ∷ 37 ∷ 241 ∷ 158 ∷ 23 ∷ 105 ∷ 120 ∷ 0 ∷ 97 ∷ []
unfolding bit_of
bits = refl

-- one old point among others gives all bits
old_among_new : (summary_of ((10, pos 5, New) ∷ (20, negsuc 2, Old) ∷ (30, pos 8, New) ∷ [])).filter ≡ full
unfolding bit_of filter_of full union
old_among_new = refl

-- the bits of the powers of 2^8 are the bytes of the number that values are multiplied by, the highest first
bits-powers :
    map bit_of (pos 1 ∷ pos (2 ^ 8) ∷ pos (2 ^ 16) ∷ pos (2 ^ 24) ∷ pos (2 ^ 32) ∷ pos (2 ^ 40) ∷ pos (2 ^ 48) ∷ pos (2 ^ 56) ∷ [])
    ≡ 0x9e ∷ 0x37 ∷ 0x79 ∷ 0xb9 ∷ 0x7f ∷ 0x4a ∷ 0x7c ∷ 0x15 ∷ []
unfolding bit_of
bits-powers = refl

-- the bits of the least and of the greatest value
bits-ends : map bit_of (negsuc 9223372036854775807 ∷ pos 9223372036854775807 ∷ []) ≡ 128 ∷ 225 ∷ []
unfolding bit_of
bits-ends = refl
