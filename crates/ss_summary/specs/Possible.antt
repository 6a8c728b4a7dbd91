-- Whether figures are possible, as a test that computes.
use Rattle.std.specs.Prelude.{ℕ, ◌-◌, ◌^◌, Bool, ◌&&◌, ◌||◌, ◌==◌, nat_le, nat_lt, ℤ, pos, negsuc, ◌+ℤ◌, ◌*ℤ◌, int_le}
use Rattle.ss_summary.specs.Figures.{Figures}
use Rattle.ss_summary.specs.Filters.{has, is_filter}
use Rattle.ss_summary.specs.declared.filter.Filter.{Filter}
use Rattle.ss_base.specs.declared.limits.TheConstants.{LAST_TIME, MOST_VALUES}

-- a signed number of 64 bits
abbrev pub fits_i64 : ℤ → Bool
fits_i64 (pos n) = nat_lt n (2 ^ 63)
fits_i64 (negsuc n) = nat_lt n (2 ^ 63)

-- so many values can have these first and last times
abbrev pub has_times : ℕ → ℕ → ℕ → Bool
has_times count t_first t_last =
    nat_le 1 count && nat_le count MOST_VALUES && nat_le t_first t_last && nat_le t_last LAST_TIME
    && nat_le (count - 1) (t_last - t_first) && (nat_lt 1 count || t_first == t_last)

-- so many values, with this least and this greatest among them, can have this sum
abbrev pub has_sum : ℕ → ℤ → ℤ → ℤ → Bool
has_sum count sum min max =
    int_le min max && int_le (max +ℤ pos (count - 1) *ℤ min) sum && int_le sum (min +ℤ pos (count - 1) *ℤ max)

-- a filter has the bits of this least and of this greatest value
abbrev pub has_bits : Filter → ℤ → ℤ → Bool
has_bits filter min max = has filter min && has filter max

-- the figures are possible
unfoldable pub is_possible : Figures → Bool
is_possible f =
    has_times f.count f.t_first f.t_last && fits_i64 f.min && fits_i64 f.max && has_sum f.count f.sum f.min f.max
    && is_filter f.filter && has_bits f.filter f.min f.max
