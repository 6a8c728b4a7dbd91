-- Fractions as numbers: how two compare, and which fraction of a number is the one in lowest terms.
use Rattle.std.specs.Prelude.{◌≡◌, ℕ, zero, suc, ◌-◌, ◌<◌, ◌≤◌, Bool, if◌then◌else◌, pos, ◌*ℤ◌, ◌≤ℤ◌, int_le}
use Rattle.std.specs.Int.{int_div_euclid, int_rem_euclid}
use Rattle.std.specs.Ordering.{int_eq}
use Rattle.ss_bounds.specs.declared.fraction.Fraction.{Fraction}

-- one is at most the other one, and at least: their parts are multiplied crosswise
abbrev pub at_most : Fraction → Fraction → Bool
at_most a b = int_le (pos b.under *ℤ a.over) (pos a.under *ℤ b.over)

abbrev pub at_least : Fraction → Fraction → Bool
at_least a b = at_most b a

-- so many times a fraction is a whole number
abbrev pub is_whole_by : Fraction → ℕ → Bool
is_whole_by a d = int_eq (int_rem_euclid (pos d *ℤ a.over) (pos a.under)) (pos 0)

-- the first of d, d + 1, .., d + n by which a fraction is whole, and d + n where it is by none of them
abbrev pub whole_by : Fraction → ℕ → ℕ → ℕ
whole_by a d zero = d
whole_by a d (suc n) = if is_whole_by a d then d else whole_by a (suc d) n

-- in lowest terms: over the least number, from 1 on, by which it is whole
unfoldable pub lowest : Fraction → Fraction
lowest a =
    let d = whole_by a 1 (a.under - 1) in
    record { over = int_div_euclid (pos d *ℤ a.over) (pos a.under); under = d }

-- one is at most the other one
pub record IsAtMost (a b : Fraction) : Type 0 where
  pub crosswise : (pos b.under *ℤ a.over) ≤ℤ (pos a.under *ℤ b.over)

-- two fractions are the same number
pub record IsSame (a b : Fraction) : Type 0 where
  pub crosswise : (pos b.under *ℤ a.over) ≡ (pos a.under *ℤ b.over)

-- b is a in lowest terms: none that is the same number is over less
pub record IsLowest (a b : Fraction) : Type 0 where
  pub some : 0 < b.under
  pub same : IsSame a b
  pub least : (c : Fraction) → 0 < c.under → IsSame a c → b.under ≤ c.under
