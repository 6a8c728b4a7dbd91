-- Where the greatest sum bends, the corners of a split window, and how great its sums are.
use Rattle.std.specs.Prelude.{◌≡◌, ℕ, ◌+◌, ◌-◌, ◌^◌, ◌≤◌, min, max, ℤ, ◌+ℤ◌, ◌-ℤ◌, FitsSigned, unsigned_abs}
use Rattle.std.specs.Int.{w128}
use Rattle.std.proofs.Common.{ap, ap₂, arith, subst, sym, ◌∙◌}
use Rattle.std.proofs.lemmas.Int.{ints, to_z-of_z}
use Rattle.ss_bounds.specs.declared.corners.Corners.{Corners}
use Rattle.ss_bounds.specs.declared.fraction.Fraction.{Fraction}
use Rattle.ss_bounds.specs.declared.side.Side.{Side}
use Rattle.ss_bounds.specs.declared.side.Side.TheVariants.{Least, Greatest}
use Rattle.ss_bounds.specs.Corners.{AreBends, AreCorners, IsSmall, sum_at}
use Rattle.ss_bounds.specs.Lines.{AreTurns}
use Rattle.ss_bounds.specs.Means.{so_many}
use Rattle.ss_bounds.specs.Split.{SplitFigures, IsSplit, low_sum, high_sum}
use Rattle.ss_bounds.proofs.Held.{held, held-is, low_sum-fits, low_sum-small, sum-fits, sum-small}
use Rattle.ss_bounds.proofs.LeastLemmas.{high_sum-rest}

-- the least sum bends where its lines turn
pub AreBends-turns : (s : SplitFigures) (a b p q : ℕ) → AreTurns s a b (p, q) → AreBends (low_sum s) a b p q
AreBends-turns s a b p q turns = record {
  from = turns.from;
  to = turns.to;
  order = turns.order;
  beside = turns.beside;
  first = (s.min, turns.first);
  second = (s.max, turns.second);
}

-- and the greatest where the least one of the others does
module _ (s : SplitFigures) (x : ℕ) (within : x + 1 ≤ s.count) where
  high_sum-next : (step : ℤ) → low_sum s (s.count - (x + 1) + 1) ≡ (low_sum s (s.count - (x + 1)) +ℤ step)
      → high_sum s (x + 1) ≡ (high_sum s x +ℤ step)
  high_sum-next step next =
      let here = high_sum-rest s x (omega arith) in
      let there = high_sum-rest s (x + 1) within in
      let place : s.count - (x + 1) + 1 ≡ s.count - x = omega arith in
      let same = ap (low_sum s) place in
      omega (arith, ints)

pub AreBends-turned : (s : SplitFigures) (a b p q : ℕ) → a ≤ b → b ≤ s.count → AreTurns s (s.count - b) (s.count - a) (p, q)
    → AreBends (high_sum s) a b (s.count - q) (s.count - p)
AreBends-turned s a b p q order within turns =
    let from = turns.from in
    let to = turns.to in
    let rising = turns.order in
    let beside = turns.beside in
    record {
      from = omega arith;
      to = omega arith;
      order = omega arith;
      beside = omega arith;
      first = (
        s.max,
        record {
          next = λ x start stop. high_sum-next s x (omega arith) s.max (turns.second.next (s.count - (x + 1)) (omega arith) (omega arith));
        },
      );
      second = (
        s.min,
        record {
          next = λ x start stop. high_sum-next s x (omega arith) s.min (turns.first.next (s.count - (x + 1)) (omega arith) (omega arith));
        },
      );
    }

-- sums of a window's values, within 107 bits
pub sum_at-small : (side : Side) (s : SplitFigures) → IsSplit s → (x : ℕ) → x ≤ s.count → unsigned_abs (sum_at side s x) ≤ 2 ^ 107
sum_at-small Least s split x within = let small = low_sum-small s split x within in omega arith
sum_at-small Greatest s split x within =
    let rest = high_sum-rest s x within in
    let small = low_sum-small s split (s.count - x) (omega arith) in
    let all = sum-small s split in
    omega (arith, ints)

pub IsSmall-taken : (side : Side) (s : SplitFigures) → IsSplit s → (x : ℕ) → x ≤ s.count → IsSmall (so_many (sum_at side s) x)
IsSmall-taken side s split x within = record { over = sum_at-small side s split x within; under = omega (arith, split.count_high) }

-- as the code holds them
pub IsSmall-held : (side : Side) (s : SplitFigures) → IsSplit s → (x : ℕ) → x ≤ s.count → (z : ℤ) → z ≡ sum_at side s x
    → IsSmall (record { over = held z; under = x })
IsSmall-held side s split x within z same =
    let small = sum_at-small side s split x within in
    let fits : FitsSigned w128 (sum_at side s x) = omega (arith, ints) in
    subst (λ v. IsSmall (record { over = v; under = x })) (sym (held-is z (sum_at side s x) same fits)) (IsSmall-taken side s split x within)

-- what is taken at the ends and at the bends are the corners
taken-itself : (f : ℕ → ℤ) (x : ℕ) (v : Fraction) → v ≡ so_many f x → v ≡ so_many f v.under
taken-itself f x v is = is ∙ ap (so_many f) (sym (ap (λ (a : Fraction). a.under) is))

pub AreCorners-taken : (f : ℕ → ℤ) (a b x y : ℕ) (c : Corners) → a ≤ b → AreBends f a b x y → c.fewest ≡ so_many f a
    → c.some ≡ so_many f (min (max a 1) b) → c.before ≡ so_many f x → c.after ≡ so_many f y → c.most ≡ so_many f b → AreCorners f a b c
AreCorners-taken f a b x y c order bends fewest some before after most =
    let left : x ≡ c.before.under = sym (ap (λ (v : Fraction). v.under) before) in
    let right : y ≡ c.after.under = sym (ap (λ (v : Fraction). v.under) after) in
    record {
      order = order;
      fewest = fewest;
      some = some;
      before = taken-itself f x c.before before;
      after = taken-itself f y c.after after;
      most = most;
      bends = subst (λ p. AreBends f a b p c.after.under) left (subst (λ q. AreBends f a b x q) right bends);
    }

-- what the code computes of the greatest sum
module _ (s : SplitFigures) (split : IsSplit s) (x : ℕ) (within : x ≤ s.count) (rest : ℤ) (rest_is : rest ≡ low_sum s (s.count - x)) where
  difference-is : (held s.sum -ℤ held rest) ≡ high_sum s x
  difference-is =
      ap₂ (λ p q. p -ℤ q) (to_z-of_z w128 s.sum (sum-fits s split))
      (held-is rest (low_sum s (s.count - x)) rest_is (low_sum-fits s split (s.count - x) (omega arith)))
      ∙ sym (high_sum-rest s x within)

  high_sum-fits : FitsSigned w128 (high_sum s x)
  high_sum-fits = let small = sum_at-small Greatest s split x within in omega (arith, ints)

  pub difference-fits : FitsSigned w128 (held s.sum -ℤ held rest)
  difference-fits = subst (FitsSigned w128) (sym difference-is) high_sum-fits

  pub computed-high_sum : held (held s.sum -ℤ held rest) ≡ high_sum s x
  computed-high_sum = held-is _ (high_sum s x) difference-is high_sum-fits
