-- The likeliest value of a count or a sum: the values of a split window that lie between its first and its last are taken to be
-- spread evenly over its free times, and each to be the mean of all of them.
use Rattle.std.specs.Prelude.{ℕ, ◌+◌, ◌-◌, ◌*◌, ◌%◌, max, Bool, ◌&&◌, ◌||◌, ◌==◌, nat_lt, if◌then◌else◌, ℤ, pos, ◌+ℤ◌, ◌*ℤ◌, unsigned_abs, List, [], ◌∷◌, map}
use Rattle.std.specs.Int.{int_div_euclid, int_rem_euclid}
pub use Rattle.ss_bounds.specs.declared.fraction.Fraction.{Fraction}
use Rattle.ss_bounds.specs.Split.{SplitFigures, IsSplit}

-- a whole number as a fraction, and the sum of two fractions and of several
abbrev pub whole : ℤ → Fraction
whole z = record { over = z; under = 1 }

abbrev pub plus : Fraction → Fraction → Fraction
plus a b = record { over = (pos b.under *ℤ a.over) +ℤ (pos a.under *ℤ b.over); under = a.under * b.under }

abbrev pub sum_of : List Fraction → Fraction
sum_of [] = whole (pos 0)
sum_of (a ∷ rest) = plus a (sum_of rest)

-- a whole number is even
abbrev pub is_even : ℤ → Bool
is_even z = unsigned_abs z % 2 == 0

-- the whole number that is nearest to a fraction, and of two that are the even one
abbrev pub nearest : Fraction → ℤ
nearest a =
    let below = int_div_euclid a.over (pos a.under) in
    let twice = 2 * unsigned_abs (int_rem_euclid a.over (pos a.under)) in
    if nat_lt twice a.under || twice == a.under && is_even below then below else below +ℤ pos 1

-- the free times strictly between the first and the last value of a split window; 1 where there is none, and so no value either
abbrev pub spread_over : SplitFigures → ℕ
spread_over s = max 1 (s.inside + s.outside)

-- how many of its values are guessed to lie in the range: its ends there, and of the others as large a part as of the free times
abbrev pub guess_of_count : SplitFigures → Fraction
guess_of_count s = record { over = pos (s.ends * spread_over s + (s.count - 2) * s.inside); under = spread_over s }

-- which sum they are guessed to have: as large a part of the sum of all as they are of all values
abbrev pub guess_of_sum : SplitFigures → Fraction
guess_of_sum s = record { over = (guess_of_count s).over *ℤ s.sum; under = s.count * (guess_of_count s).under }

-- the guesses, from what is known and from the split windows: rounded once
abbrev pub count_guess : ℤ → List SplitFigures → ℤ
count_guess known splits = nearest (plus (whole known) (sum_of (map guess_of_count splits)))

abbrev pub sum_guess : ℤ → List SplitFigures → ℤ
sum_guess known splits = nearest (plus (whole known) (sum_of (map guess_of_sum splits)))

-- the figures of each are those of a window that a range may split
abbrev pub AreAllSplit : List SplitFigures → Type 0
AreAllSplit [] = Unit {0}
AreAllSplit (s ∷ splits) = IsSplit s × AreAllSplit splits
