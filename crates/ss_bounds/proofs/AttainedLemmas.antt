-- The first number at which a function has its least or its greatest value, and how many values of a split window attain an
-- end of its sum.
use Rattle.std.specs.Prelude.{◌≡◌, ℕ, zero, suc, ◌+◌, ◌-◌, ◌<◌, ◌≤◌, ◌≢◌, ℤ, neg_ℤ, ◌-ℤ◌, ◌≤ℤ◌, Bool, true, false, if◌then◌else◌}
use Rattle.std.specs.Ordering.{int_eq}
use Rattle.std.proofs.Common.{ap, arith, inl, inr, refl, sym, ◌∙◌}
use Rattle.std.proofs.lemmas.Bool.{cases_lt, false≢true}
use Rattle.std.proofs.lemmas.Bool.Decides.{Decides-int_eq}
use Rattle.std.proofs.lemmas.Int.{ints}
use Rattle.ss_bounds.specs.Split.{SplitFigures, IsSplit, least_count, greatest_count, count_interval, low_sum, high_sum, least_of, greatest_of, sum_interval}
use Rattle.ss_bounds.specs.Lines.{IsLeast, IsLastLeast, lower}
use Rattle.ss_bounds.specs.Attained.{first_at, least_sum_at, greatest_sum_at, IsFirstLeast, IsFirstGreatest}
use Rattle.ss_bounds.proofs.LeastLemmas.{IsLeast-least_of, greatest_of-at_least, greatest_of-at_most, high_sum-rest}
use Rattle.ss_bounds.proofs.StraightLemmas.{IsFirstLeast-lower}

module _ (f : ℕ → ℤ) where
  -- the search from a on finds the first number at which f is v
  module _ (v : ℤ) where
    first_at-next : (a n x : ℕ) (b : Bool) → int_eq (f a) v ≡ b → a ≤ x → f x ≡ v → ((y : ℕ) → a ≤ y → y < x → f y ≢ v)
        → (a < x → first_at f v (suc a) n ≡ x) → (if b then a else first_at f v (suc a) n) ≡ x
    first_at-next a n x true found from is before rest = elim (cases_lt a x) [
      | inl later ↦ absurd (before a (omega arith) later ((Decides-int_eq (f a) v).0 found))
      | inr here ↦ omega arith
    ]
    first_at-next a n x false other from is before rest = elim (cases_lt a x) [
      | inl later ↦ rest later
      | inr here ↦
          (let same : a ≡ x = omega arith in
          absurd (false≢true (sym other ∙ (Decides-int_eq (f a) v).1 (ap f same ∙ is))))
    ]

    first_at-is : (a n x : ℕ) → a ≤ x → x ≤ a + n → f x ≡ v → ((y : ℕ) → a ≤ y → y < x → f y ≢ v) → first_at f v a n ≡ x
    first_at-is a zero x from to is before = omega arith
    first_at-is a (suc n) x from to is before =
        first_at-next a n x (int_eq (f a) v) refl from is before
        (λ later. first_at-is (suc a) n x (omega arith) (omega arith) is (λ y start. before y (omega arith)))

  pub IsLeast-IsFirstLeast : (a b x : ℕ) → IsFirstLeast f a b x → IsLeast f a b (f x)
  IsLeast-IsFirstLeast a b x first = record { at_most = first.at_most; reached = (x, first.from, first.to, refl) }

  IsFirstLeast-least_of : (a b n x : ℕ) → a + n ≡ b → IsFirstLeast f a b x → f x ≡ least_of f a n
  IsFirstLeast-least_of a b n x end first = IsLeast-least_of f a b n (f x) end (IsLeast-IsFirstLeast a b x first)

  IsFirstGreatest-greatest_of : (a b n x : ℕ) → a + n ≡ b → IsFirstGreatest f a b x → f x ≡ greatest_of f a n
  IsFirstGreatest-greatest_of a b n x end first =
      let place : a + (x - a) ≡ x = omega (arith, first.from) in
      let up = greatest_of-at_least f a n (x - a) (omega (arith, first.from, first.to)) in
      let up : f x ≤ℤ greatest_of f a n = rw place at up in
      let down = greatest_of-at_most f a n (f x) (λ y from to. first.at_least y from (omega arith)) in
      omega (arith, ints)

  first_at-least_of : (a b n x : ℕ) → a + n ≡ b → IsFirstLeast f a b x → first_at f (least_of f a n) a n ≡ x
  first_at-least_of a b n x end first =
      let is = IsFirstLeast-least_of a b n x end first in
      first_at-is (least_of f a n) a n x first.from (omega (arith, first.to)) is
      (λ y from before same. let more = first.first y from before in omega (arith, ints))

  first_at-greatest_of : (a b n x : ℕ) → a + n ≡ b → IsFirstGreatest f a b x → first_at f (greatest_of f a n) a n ≡ x
  first_at-greatest_of a b n x end first =
      let is = IsFirstGreatest-greatest_of a b n x end first in
      first_at-is (greatest_of f a n) a n x first.from (omega (arith, first.to)) is
      (λ y from before same. let less = first.first y from before in omega (arith, ints))

-- there is such a number
single-least : (f : ℕ → ℤ) (a : ℕ) → IsFirstLeast f a a a
single-least f a = record {
  from = omega arith;
  to = omega arith;
  at_most = λ y from to. let same : y ≡ a = omega arith in rw same (omega (arith, ints));
  first = λ y from before. absurd (omega arith);
}

some-least : (f : ℕ → ℤ) (a n : ℕ) → (x : ℕ) × IsFirstLeast f a (a + n) x
some-least f a zero = let same : a + 0 ≡ a = omega arith in (a, rw same (single-least f a))
some-least f a (suc n) =
    let before = some-least f a n in (
      lower f before.0 (a + suc n),
      IsFirstLeast-lower f a (a + suc n) (a + n) (a + suc n) before.0 (a + suc n) (omega arith) (omega arith) (omega arith)
          before.1 (single-least f (a + suc n)),
    )

some-greatest : (f : ℕ → ℤ) (a n : ℕ) → (x : ℕ) × IsFirstGreatest f a (a + n) x
some-greatest f a n =
    let opposite = some-least (λ x. neg_ℤ (f x)) a n in
    let is = opposite.1 in (
      opposite.0,
      record {
        from = is.from;
        to = is.to;
        at_least = λ y from to. let less = is.at_most y from to in omega (arith, ints);
        first = λ y from before. let less = is.first y from before in omega (arith, ints);
      },
    )

-- where the least sum of the values outside is last least, the greatest sum of those inside is first greatest
IsFirstGreatest-high_sum : (s : SplitFigures) (a b y : ℕ) → a ≤ b → b ≤ s.count
    → IsLastLeast (low_sum s) (s.count - b) (s.count - a) y → IsFirstGreatest (high_sum s) a b (s.count - y)
IsFirstGreatest-high_sum s a b y order within last =
    let back : s.count - (s.count - y) ≡ y = omega (arith, last.from, last.to) in
    let at = high_sum-rest s (s.count - y) (omega arith) in
    let at : high_sum s (s.count - y) ≡ (s.sum -ℤ low_sum s y) = at ∙ ap (λ z. s.sum -ℤ low_sum s z) back in
    record {
      from = omega (arith, last.from, last.to);
      to = omega (arith, last.from, last.to);
      at_least = λ z from to.
          let at_z = high_sum-rest s z (omega arith) in
          let low = last.at_most (s.count - z) (omega arith) (omega arith) in
          omega (arith, ints);
      first = λ z from before.
          let at_z = high_sum-rest s z (omega (arith, last.from, last.to)) in
          let low = last.last (s.count - z) (omega (arith, last.from, last.to)) (omega arith) in
          omega (arith, ints);
    }

-- what the code finds
pub least_sum_at-is : (s : SplitFigures) (a b x : ℕ) → (a, b) ≡ count_interval s → IsFirstLeast (low_sum s) a b x → x ≡ least_sum_at s
unfolding sum_interval least_sum_at
least_sum_at-is s a b x counts first =
    let few : a ≡ least_count s = ap (λ (p : ℕ × ℕ). p.0) counts in
    let many : b ≡ greatest_count s = ap (λ (p : ℕ × ℕ). p.1) counts in
    let end : least_count s + (greatest_count s - least_count s) ≡ greatest_count s = omega (arith, first.from, first.to) in
    sym (first_at-least_of (low_sum s) _ _ (greatest_count s - least_count s) x end (rw (few, many) at first))

-- the numbers of values that may lie in the range
module _ (s : SplitFigures) (split : IsSplit s) where
  pub least_count-order : least_count s ≤ greatest_count s
  least_count-order = omega (arith, split.room, split.one_end, split.count_low)

  pub greatest_count-few : greatest_count s < s.count
  greatest_count-few = omega (arith, split.one_end, split.count_low)

  -- up to the greatest of them
  range-end : least_count s + (greatest_count s - least_count s) ≡ greatest_count s
  range-end = omega (arith, least_count-order)

  pub greatest_sum_at-is : (a b y : ℕ) → (a, b) ≡ count_interval s → IsLastLeast (low_sum s) (s.count - b) (s.count - a) y
      → s.count - y ≡ greatest_sum_at s
  unfolding sum_interval greatest_sum_at
  greatest_sum_at-is a b y counts last =
      let few : a ≡ least_count s = ap (λ (p : ℕ × ℕ). p.0) counts in
      let many : b ≡ greatest_count s = ap (λ (p : ℕ × ℕ). p.1) counts in
      let first = IsFirstGreatest-high_sum s _ _ y least_count-order (omega (arith, greatest_count-few)) (rw (few, many) at last) in
      sym (first_at-greatest_of (high_sum s) _ _ _ _ range-end first)

  pub least_sum_at-first : IsFirstLeast (low_sum s) (least_count s) (greatest_count s) (least_sum_at s)
      × (low_sum s (least_sum_at s) ≡ (sum_interval s).0)
  unfolding sum_interval least_sum_at
  least_sum_at-first =
      let some = some-least (low_sum s) (least_count s) (greatest_count s - least_count s) in
      let first = rw range-end at some.1 in
      let is = first_at-least_of (low_sum s) _ _ _ some.0 range-end first in
      rw is (first, IsFirstLeast-least_of (low_sum s) _ _ _ some.0 range-end first)

  pub greatest_sum_at-first : IsFirstGreatest (high_sum s) (least_count s) (greatest_count s) (greatest_sum_at s)
      × (high_sum s (greatest_sum_at s) ≡ (sum_interval s).1)
  unfolding sum_interval greatest_sum_at
  greatest_sum_at-first =
      let some = some-greatest (high_sum s) (least_count s) (greatest_count s - least_count s) in
      let first = rw range-end at some.1 in
      let is = first_at-greatest_of (high_sum s) _ _ _ some.0 range-end first in
      rw is (first, IsFirstGreatest-greatest_of (high_sum s) _ _ _ some.0 range-end first)
