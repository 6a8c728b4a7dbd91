-- A guess lies within the interval that it is the likeliest value of.
use Rattle.std.specs.Prelude.{◌≡◌, ℕ, ◌+◌, ◌-◌, ◌*◌, ◌%◌, ◌<◌, ◌≤◌, max, min, Bool, true, false, ◌&&◌, ◌||◌, ◌==◌, nat_lt, if◌then◌else◌, ◌⊎◌}
use Rattle.std.specs.Prelude.{ℤ, pos, negsuc, ◌+ℤ◌, ◌-ℤ◌, ◌*ℤ◌, ◌≤ℤ◌, ◌<ℤ◌, unsigned_abs, List, [], ◌∷◌, map, sum_by}
use Rattle.std.specs.Int.{int_div_euclid, int_rem_euclid, int_max, int_min}
use Rattle.std.proofs.Common.{arith, ap, refl, sym, inl, inr, ◌∙◌}
use Rattle.std.proofs.lemmas.Int.{ints, clamps, by_lt_z}
use Rattle.std.proofs.lemmas.Bool.{cases_lt}
use Rattle.std.proofs.lemmas.Bool.Decides.{nat_tests}
use Rattle.std.proofs.lemmas.List.Sums.{sum_by-cons}
use Rattle.std.proofs.Math.Nat.{mul-le-mul_left, mul-pos}
use Rattle.ss_summary.proofs.Bounds.{times-le-times}
use Rattle.ss_bounds.specs.Split.{SplitFigures, IsSplit, least_count, greatest_count, low_sum, high_sum, sum_interval}
use Rattle.ss_bounds.specs.Guess.{Fraction, whole, plus, sum_of, nearest, spread_over, guess_of_count, guess_of_sum, AreAllSplit, count_guess, sum_guess}
use Rattle.ss_bounds.specs.Truth.{total}
use Rattle.ss_bounds.proofs.Numbers.{minus-times, times-minus, times-plus, product-times, more-times}
use Rattle.ss_bounds.proofs.TruthLemmas.{sum_interval-at}
use Rattle.ss_bounds.proofs.AttainedLemmas.{greatest_count-few}

-- the quotient and the remainder
pub div_euclid-rem : (o : ℤ) (u : ℕ) → 0 < u
    → (((pos u *ℤ int_div_euclid o (pos u)) +ℤ pos (unsigned_abs (int_rem_euclid o (pos u)))) ≡ o) × (unsigned_abs (int_rem_euclid o (pos u)) < u)
div_euclid-rem (pos a) u some = (omega (arith, ints), omega (arith, ints))
div_euclid-rem (negsuc a) u some = (omega (arith, ints), omega (arith, ints))

-- z is a whole number nearest to a fraction, and of two the even one
pub record IsNearest (a : Fraction) (z : ℤ) : Type 0 where
  pub low : (pos 2 *ℤ (pos a.under *ℤ z)) ≤ℤ ((pos 2 *ℤ a.over) +ℤ pos a.under)
  pub high : (pos 2 *ℤ a.over) ≤ℤ ((pos 2 *ℤ (pos a.under *ℤ z)) +ℤ pos a.under)
  pub even_low : (pos 2 *ℤ (pos a.under *ℤ z)) ≡ ((pos 2 *ℤ a.over) +ℤ pos a.under) → unsigned_abs z % 2 ≡ 0
  pub even_high : (pos 2 *ℤ a.over) ≡ ((pos 2 *ℤ (pos a.under *ℤ z)) +ℤ pos a.under) → unsigned_abs z % 2 ≡ 0

-- the number after q, and one more of a product
pub next-times : (u : ℕ) (q : ℤ) → (pos u *ℤ (q +ℤ pos 1)) ≡ ((pos u *ℤ q) +ℤ pos u)
next-times u q = let parts = times-plus u q (pos 1) in omega (arith, ints)

-- at the quotient q and the remainder r of a fraction, by how they compare
IsNearest-down : (o q : ℤ) (u r : ℕ) → 0 < u → ((pos u *ℤ q) +ℤ pos r) ≡ o → 2 * r < u ⊎ ((2 * r ≡ u) × (unsigned_abs q % 2 ≡ 0))
    → IsNearest (record { over = o; under = u }) q
IsNearest-down o q u r some is (inl less) = record {
  low = omega (arith, ints);
  high = omega (arith, ints);
  even_low = λ tie. absurd (omega (arith, ints));
  even_high = λ tie. absurd (omega (arith, ints));
}
IsNearest-down o q u r some is (inr (half, even)) = record {
  low = omega (arith, ints);
  high = omega (arith, ints);
  even_low = λ tie. even;
  even_high = λ tie. even;
}

-- a number is odd where the one before it is even
odd-next : (q : ℤ) → unsigned_abs q % 2 ≡ 1 → unsigned_abs (q +ℤ pos 1) % 2 ≡ 0
odd-next q odd = omega (arith, ints)

next-odd : (q : ℤ) → unsigned_abs q % 2 ≡ 0 → unsigned_abs (q +ℤ pos 1) % 2 ≡ 0 → ⊥
next-odd q even next = omega (arith, ints)

IsNearest-up : (o q : ℤ) (u r : ℕ) → 0 < u → ((pos u *ℤ q) +ℤ pos r) ≡ o → r < u → u < 2 * r ⊎ ((2 * r ≡ u) × (unsigned_abs q % 2 ≡ 1))
    → IsNearest (record { over = o; under = u }) (q +ℤ pos 1)
IsNearest-up o q u r some is less (inl more) =
    let next = next-times u q in record {
      low = omega (arith, ints);
      high = omega (arith, ints);
      even_low = λ tie. absurd (omega (arith, ints));
      even_high = λ tie. absurd (omega (arith, ints));
    }
IsNearest-up o q u r some is less (inr (half, odd)) =
    let next = next-times u q in record {
      low = omega (arith, ints);
      high = omega (arith, ints);
      even_low = λ tie. odd-next q odd;
      even_high = λ tie. odd-next q odd;
    }

IsNearest-chosen : (o q : ℤ) (u r : ℕ) → 0 < u → ((pos u *ℤ q) +ℤ pos r) ≡ o → r < u
    → (less half even : Bool) → nat_lt (2 * r) u ≡ less → (2 * r == u) ≡ half → (unsigned_abs q % 2 == 0) ≡ even
    → IsNearest (record { over = o; under = u }) (if less || half && even then q else q +ℤ pos 1)
IsNearest-chosen o q u r some is below true half even less_is half_is even_is =
    IsNearest-down o q u r some is (inl (grind (arith, nat_tests)))
IsNearest-chosen o q u r some is below false true true less_is half_is even_is =
    IsNearest-down o q u r some is (inr (grind (arith, nat_tests), grind (arith, nat_tests)))
IsNearest-chosen o q u r some is below false true false less_is half_is even_is =
    IsNearest-up o q u r some is below (inr (grind (arith, nat_tests), grind (arith, nat_tests)))
IsNearest-chosen o q u r some is below false false even less_is half_is even_is =
    IsNearest-up o q u r some is below (inl (grind (arith, nat_tests)))

IsNearest-nearest : (a : Fraction) → 0 < a.under → IsNearest a (nearest a)
IsNearest-nearest a some =
    let parts = div_euclid-rem a.over a.under some in
    IsNearest-chosen a.over (int_div_euclid a.over (pos a.under)) a.under (unsigned_abs (int_rem_euclid a.over (pos a.under))) some
    parts.0 parts.1 _ _ _ refl refl refl

-- there is only one
nearest-far : (u : ℕ) (o z w : ℤ) → 0 < u → (pos 2 *ℤ o) ≤ℤ ((pos 2 *ℤ (pos u *ℤ z)) +ℤ pos u)
    → (pos 2 *ℤ (pos u *ℤ w)) ≤ℤ ((pos 2 *ℤ o) +ℤ pos u) → (z +ℤ pos 2) ≤ℤ w → ⊥
nearest-far u o z w some high low far =
    let scaled = times-le-times u (z +ℤ pos 2) w far in
    let parts = times-plus u z (pos 2) in
    omega (arith, ints)

nearest-beside : (u : ℕ) (o z : ℤ) → 0 < u → IsNearest (record { over = o; under = u }) z → IsNearest (record { over = o; under = u }) (z +ℤ pos 1) → ⊥
nearest-beside u o z some is next =
    let parts = next-times u z in
    let high = is.high in
    let low = next.low in
    next-odd z (is.even_high (omega (arith, ints))) (next.even_low (omega (arith, ints)))

nearest-less : (a : Fraction) (z w : ℤ) → 0 < a.under → IsNearest a z → IsNearest a w → z <ℤ w → ⊥
nearest-less a z w some is other less =
    by_lt_z (z +ℤ pos 1) w
    (λ far. nearest-far a.under a.over z w some is.high other.low (omega (arith, ints)))
    (λ near.
    let same : w ≡ (z +ℤ pos 1) = omega (arith, ints) in
    nearest-beside a.under a.over z some is (rw same at other))

pub nearest-is : (a : Fraction) (z : ℤ) → 0 < a.under → IsNearest a z → z ≡ nearest a
nearest-is a z some is =
    let other = IsNearest-nearest a some in
    by_lt_z z (nearest a) (λ less. absurd (nearest-less a z (nearest a) some is other less)) (λ more.
    by_lt_z (nearest a) z (λ less. absurd (nearest-less a (nearest a) z some other is less)) (λ less. omega (arith, ints)))

-- a fraction lies between two whole numbers
pub record IsBetween (a : Fraction) (lo hi : ℤ) : Type 0 where
  pub some : 0 < a.under
  pub low : (pos a.under *ℤ lo) ≤ℤ a.over
  pub high : a.over ≤ℤ (pos a.under *ℤ hi)

IsBetween-whole : (z : ℤ) → IsBetween (whole z) z z
IsBetween-whole z = record { some = omega arith; low = omega (arith, ints); high = omega (arith, ints) }

-- what a sum of two fractions is at least
plus-low : (u v : ℕ) (o p l m : ℤ) → (pos u *ℤ l) ≤ℤ o → (pos v *ℤ m) ≤ℤ p
    → (pos (u * v) *ℤ (l +ℤ m)) ≤ℤ ((pos v *ℤ o) +ℤ (pos u *ℤ p))
plus-low u v o p l m first second =
    let all = times-plus (u * v) l m in
    let low = times-le-times v (pos u *ℤ l) o first in
    let other = times-le-times u (pos v *ℤ m) p second in
    let product = product-times v u l in
    let other_product = product-times u v m in
    let turned : (pos (u * v) *ℤ l) ≡ (pos (v * u) *ℤ l) = ap (λ n. pos n *ℤ l) (omega arith) in
    omega (arith, ints)

plus-high : (u v : ℕ) (o p l m : ℤ) → o ≤ℤ (pos u *ℤ l) → p ≤ℤ (pos v *ℤ m)
    → ((pos v *ℤ o) +ℤ (pos u *ℤ p)) ≤ℤ (pos (u * v) *ℤ (l +ℤ m))
plus-high u v o p l m first second =
    let all = times-plus (u * v) l m in
    let high = times-le-times v o (pos u *ℤ l) first in
    let other = times-le-times u p (pos v *ℤ m) second in
    let product = product-times v u l in
    let other_product = product-times u v m in
    let turned : (pos (u * v) *ℤ l) ≡ (pos (v * u) *ℤ l) = ap (λ n. pos n *ℤ l) (omega arith) in
    omega (arith, ints)

IsBetween-plus : (a b : Fraction) (l h m i : ℤ) → IsBetween a l h → IsBetween b m i → IsBetween (plus a b) (l +ℤ m) (h +ℤ i)
IsBetween-plus a b l h m i first second = record {
  some = mul-pos first.some second.some;
  low = plus-low a.under b.under a.over b.over l m first.low second.low;
  high = plus-high a.under b.under a.over b.over h i first.high second.high;
}

-- so does the nearest whole number
near-low : (u : ℕ) (o z l : ℤ) → 0 < u → (pos u *ℤ l) ≤ℤ o → (pos 2 *ℤ o) ≤ℤ ((pos 2 *ℤ (pos u *ℤ z)) +ℤ pos u) → l ≤ℤ z
near-low u o z l some low high = by_lt_z z l (λ less.
    let scaled = times-le-times u (z +ℤ pos 1) l (omega (arith, ints)) in
    let next = next-times u z in
    absurd (omega (arith, ints))) (λ order. order)

near-high : (u : ℕ) (o z h : ℤ) → 0 < u → o ≤ℤ (pos u *ℤ h) → (pos 2 *ℤ (pos u *ℤ z)) ≤ℤ ((pos 2 *ℤ o) +ℤ pos u) → z ≤ℤ h
near-high u o z h some high low = by_lt_z h z (λ less.
    let scaled = times-le-times u (h +ℤ pos 1) z (omega (arith, ints)) in
    let next = next-times u h in
    absurd (omega (arith, ints))) (λ order. order)

nearest-between : (a : Fraction) (lo hi : ℤ) → IsBetween a lo hi → (lo ≤ℤ nearest a) × (nearest a ≤ℤ hi)
nearest-between a lo hi is =
    let found = IsNearest-nearest a is.some in
    (near-low a.under a.over (nearest a) lo is.some is.low found.high, near-high a.under a.over (nearest a) hi is.some is.high found.low)

-- of k values over i free times inside and o outside: at least those for which there is no time outside, and at most as many as
-- there are times inside
part-low : (k i o : ℕ) → k ≤ i + o → (k - o) * max 1 (i + o) ≤ k * i
part-low k i o room = elim (cases_lt o k) [
  | inl some ↦
      let times : max 1 (i + o) ≡ i + o = omega arith in
      let rest : k ≡ (k - o) + o = omega arith in
      let outside : o * k ≤ o * (i + o) = mul-le-mul_left o room in
      let product : k * (i + o) ≡ ((k - o) + o) * (i + o) = ap (λ n. n * (i + o)) rest in
      rw times (omega arith)
  | inr few ↦
      let none : k - o ≡ 0 = omega arith in
      rw none (omega arith)
]

part-high : (k i o : ℕ) → k ≤ i + o → k * i ≤ min k i * max 1 (i + o)
part-high k i o room = elim (cases_lt i k) [
  | inl few ↦
      let least : min k i ≡ i = omega arith in
      let all : i * k ≤ i * max 1 (i + o) = mul-le-mul_left i (omega arith) in
      rw least (omega arith)
  | inr some ↦
      let least : min k i ≡ k = omega arith in
      let all : k * i ≤ k * max 1 (i + o) = mul-le-mul_left k (omega arith) in
      rw least all
]

-- a product with the greater of two, and with the lesser
times-max : (n : ℕ) (a b v : ℤ) → (pos n *ℤ a) ≤ℤ v → (pos n *ℤ b) ≤ℤ v → (pos n *ℤ int_max a b) ≤ℤ v
times-max n a b v first second = by_lt_z a b (λ less.
    let is : int_max a b ≡ b = omega (arith, ints, clamps) in
    rw is second) (λ order.
    let is : int_max a b ≡ a = omega (arith, ints, clamps) in
    rw is first)

times-min : (n : ℕ) (a b v : ℤ) → v ≤ℤ (pos n *ℤ a) → v ≤ℤ (pos n *ℤ b) → v ≤ℤ (pos n *ℤ int_min a b)
times-min n a b v first second = by_lt_z a b (λ less.
    let is : int_min a b ≡ a = omega (arith, ints, clamps) in
    rw is first) (λ order.
    let is : int_min a b ≡ b = omega (arith, ints, clamps) in
    rw is second)

-- more of a number that isn't above zero is no more
fewer-times : (x y : ℕ) (a : ℤ) → x ≤ y → a ≤ℤ pos 0 → (pos y *ℤ a) ≤ℤ (pos x *ℤ a)
fewer-times x y a order low =
    let rest = minus-times y x a order in
    let scaled = times-le-times (y - x) a (pos 0) low in
    omega (arith, ints)

pub product-turned : (m n : ℕ) (a : ℤ) → (pos (n * m) *ℤ a) ≡ (pos m *ℤ (pos n *ℤ a))
product-turned m n a = ap (λ k. pos k *ℤ a) (omega arith) ∙ product-times m n a

pub products-turned : (m n : ℕ) (a : ℤ) → (pos m *ℤ (pos n *ℤ a)) ≡ (pos n *ℤ (pos m *ℤ a))
products-turned m n a = sym (product-turned m n a) ∙ product-times n m a

-- n of t parts of v, where they are from a to b: v as a part of c is no less than lo at a and at b, and so in between
part-of-low : (v lo : ℤ) (c t a b n : ℕ) → a * t ≤ n → n ≤ b * t → (pos c *ℤ lo) ≤ℤ (pos a *ℤ v) → (pos c *ℤ lo) ≤ℤ (pos b *ℤ v)
    → (pos (c * t) *ℤ lo) ≤ℤ (pos n *ℤ v)
part-of-low v lo c t a b n low high first second =
    let product = product-turned t c lo in
    by_lt_z v (pos 0) (λ below.
    let scaled = times-le-times t _ _ second in
    let other = product-turned t b v in
    let fewer = fewer-times n (b * t) v high (omega (arith, ints)) in
    omega (arith, ints)) (λ above.
    let scaled = times-le-times t _ _ first in
    let other = product-turned t a v in
    let more = more-times (a * t) n v low above in
    omega (arith, ints))

part-of-high : (v hi : ℤ) (c t a b n : ℕ) → a * t ≤ n → n ≤ b * t → (pos a *ℤ v) ≤ℤ (pos c *ℤ hi) → (pos b *ℤ v) ≤ℤ (pos c *ℤ hi)
    → (pos n *ℤ v) ≤ℤ (pos (c * t) *ℤ hi)
part-of-high v hi c t a b n low high first second =
    let product = product-turned t c hi in
    by_lt_z v (pos 0) (λ below.
    let scaled = times-le-times t _ _ first in
    let other = product-turned t a v in
    let fewer = fewer-times (a * t) n v low (omega (arith, ints)) in
    omega (arith, ints)) (λ above.
    let scaled = times-le-times t _ _ second in
    let other = product-turned t b v in
    let more = more-times n (b * t) v high above in
    omega (arith, ints))

module _ (s : SplitFigures) (split : IsSplit s) where
  -- how many values are guessed lies between the numbers that may lie in the range
  count-low : least_count s * spread_over s ≤ s.ends * spread_over s + (s.count - 2) * s.inside
  count-low = let part = part-low (s.count - 2) s.inside s.outside split.room in omega arith

  count-high : s.ends * spread_over s + (s.count - 2) * s.inside ≤ greatest_count s * spread_over s
  count-high = let part = part-high (s.count - 2) s.inside s.outside split.room in omega arith

  pub IsBetween-count : IsBetween (guess_of_count s) (pos (least_count s)) (pos (greatest_count s))
  IsBetween-count = record {
    some = omega arith;
    low = let low = count-low in omega (arith, ints);
    high = let high = count-high in omega (arith, ints);
  }

  -- the mean of all values lies between the least and the greatest one
  pub mean-low : (pos s.count *ℤ s.min) ≤ℤ s.sum
  mean-low =
      let low = split.sum_low in
      let order = split.order in
      let rest = minus-times s.count 1 s.min (omega (arith, split.count_low)) in
      omega (arith, ints)

  pub mean-high : s.sum ≤ℤ (pos s.count *ℤ s.max)
  mean-high =
      let high = split.sum_high in
      let order = split.order in
      let rest = minus-times s.count 1 s.max (omega (arith, split.count_low)) in
      omega (arith, ints)

  -- so x values of this mean have a sum from their least to their greatest one
  low-mean : (x : ℕ) → x ≤ s.count → (pos s.count *ℤ low_sum s x) ≤ℤ (pos x *ℤ s.sum)
  low-mean x within =
      let inside = times-le-times x _ _ mean-low in
      let outside = times-le-times (s.count - x) _ _ mean-high in
      let others = minus-times s.count x s.sum within in
      let product = times-minus s.count s.sum (pos (s.count - x) *ℤ s.max) in
      let alone = products-turned s.count x s.min in
      let rest = products-turned s.count (s.count - x) s.max in
      times-max s.count (pos x *ℤ s.min) (s.sum -ℤ (pos (s.count - x) *ℤ s.max)) (pos x *ℤ s.sum) (omega (arith, ints)) (omega (arith, ints))

  high-mean : (x : ℕ) → x ≤ s.count → (pos x *ℤ s.sum) ≤ℤ (pos s.count *ℤ high_sum s x)
  high-mean x within =
      let inside = times-le-times x _ _ mean-high in
      let outside = times-le-times (s.count - x) _ _ mean-low in
      let others = minus-times s.count x s.sum within in
      let product = times-minus s.count s.sum (pos (s.count - x) *ℤ s.min) in
      let alone = products-turned s.count x s.max in
      let rest = products-turned s.count (s.count - x) s.min in
      times-min s.count (pos x *ℤ s.max) (s.sum -ℤ (pos (s.count - x) *ℤ s.min)) (pos x *ℤ s.sum) (omega (arith, ints)) (omega (arith, ints))

  -- and so the sum of a whole number of values of this mean lies in the interval of sums, if they may be so many
  means-within : (x : ℕ) → least_count s ≤ x → x ≤ greatest_count s
      → ((pos s.count *ℤ (sum_interval s).0) ≤ℤ (pos x *ℤ s.sum)) × ((pos x *ℤ s.sum) ≤ℤ (pos s.count *ℤ (sum_interval s).1))
  means-within x low high =
      let at = sum_interval-at s x low high in
      let few : x ≤ s.count = omega (arith, greatest_count-few s split) in
      let least = times-le-times s.count _ _ at.0 in
      let greatest = times-le-times s.count _ _ at.1 in
      let mean_low = low-mean x few in
      let mean_high = high-mean x few in
      (omega (arith, ints), omega (arith, ints))

  pub IsBetween-sum : IsBetween (guess_of_sum s) (sum_interval s).0 (sum_interval s).1
  IsBetween-sum =
      let least = means-within (least_count s) (omega arith) (omega arith) in
      let greatest = means-within (greatest_count s) (omega arith) (omega arith) in
      record {
        some = mul-pos (omega (arith, split.count_low)) (omega arith);
        low = part-of-low s.sum (sum_interval s).0 s.count (spread_over s) _ _ _ count-low count-high least.0 greatest.0;
        high = part-of-high s.sum (sum_interval s).1 s.count (spread_over s) _ _ _ count-low count-high least.1 greatest.1;
      }

-- so the guesses of all windows lie between what all of them allow
pub IsBetween-counts : (splits : List SplitFigures) → AreAllSplit splits
    → IsBetween (sum_of (map guess_of_count splits)) (pos (sum_by least_count splits)) (pos (sum_by greatest_count splits))
IsBetween-counts [] each = IsBetween-whole (pos 0)
IsBetween-counts (s ∷ splits) each =
    let both = IsBetween-plus _ _ _ _ _ _ (IsBetween-count s each.0) (IsBetween-counts splits each.1) in
    rw (sum_by-cons least_count s splits, sum_by-cons greatest_count s splits) both

pub IsBetween-sums : (splits : List SplitFigures) → AreAllSplit splits
    → IsBetween (sum_of (map guess_of_sum splits)) (total (map (λ (s : ℤ × ℤ). s.0) (map sum_interval splits)))
    (total (map (λ (s : ℤ × ℤ). s.1) (map sum_interval splits)))
IsBetween-sums [] each = IsBetween-whole (pos 0)
IsBetween-sums (s ∷ splits) each =
    IsBetween-plus _ _ _ _ _ _ (IsBetween-sum s each.0) (IsBetween-sums splits each.1)

pub count_guess-within : (known : ℕ) (splits : List SplitFigures) → AreAllSplit splits
    → (pos (known + sum_by least_count splits) ≤ℤ count_guess (pos known) splits)
    × (count_guess (pos known) splits ≤ℤ pos (known + sum_by greatest_count splits))
count_guess-within known splits each =
    nearest-between _ _ _ (IsBetween-plus _ _ _ _ _ _ (IsBetween-whole (pos known)) (IsBetween-counts splits each))

pub sum_guess-within : (known : ℤ) (splits : List SplitFigures) → AreAllSplit splits
    → ((known +ℤ total (map (λ (s : ℤ × ℤ). s.0) (map sum_interval splits))) ≤ℤ sum_guess known splits)
    × (sum_guess known splits ≤ℤ (known +ℤ total (map (λ (s : ℤ × ℤ). s.1) (map sum_interval splits))))
sum_guess-within known splits each =
    nearest-between _ _ _ (IsBetween-plus _ _ _ _ _ _ (IsBetween-whole known) (IsBetween-sums splits each))
