-- The two straight lines whose greater one is the least sum of x values, and where they cross.
use Rattle.std.specs.Prelude.{◌≡◌, ℕ, ◌+◌, ◌*◌, ◌/◌, ◌<◌, ◌≤◌, min, max, pos, ◌+ℤ◌, ◌-ℤ◌, ◌*ℤ◌, ◌≤ℤ◌}
use Rattle.std.proofs.Common.{ap, arith}
use Rattle.std.proofs.lemmas.Int.{ints, clamps}
use Rattle.std.proofs.lemmas.Nat.{div_below}
use Rattle.std.proofs.Math.Nat.{div-mul-le_self, lt-div-mul-add}
use Rattle.ss_bounds.specs.Split.{SplitFigures, IsSplit, low_sum}
use Rattle.ss_bounds.specs.Lines.{each_least, others_greatest, IsCrossing, AreTurns}
use Rattle.ss_bounds.proofs.Numbers.{times-minus, minus-times, more-times}

module _ (s : SplitFigures) where
  -- the second line less the first one, at x
  gap : (x : ℕ) → x ≤ s.count → (others_greatest s x -ℤ each_least s x)
      ≡ ((s.sum -ℤ (pos s.count *ℤ s.max)) +ℤ (pos x *ℤ (s.max -ℤ s.min)))
  gap x within =
      let others = minus-times s.count x s.max within in
      let apart = times-minus x s.max s.min in
      omega (arith, ints)

  -- as x grows the second line gains on the first
  gap-grows : (x y : ℕ) → x ≤ y → y ≤ s.count → s.min ≤ℤ s.max
      → (others_greatest s x -ℤ each_least s x) ≤ℤ (others_greatest s y -ℤ each_least s y)
  gap-grows x y more within order =
      let at_x = gap x (omega arith) in
      let at_y = gap y within in
      let steps = more-times x y (s.max -ℤ s.min) more (omega (arith, ints)) in
      omega (arith, ints)

  low_sum-before : (k : ℕ) → IsCrossing s k → (x : ℕ) → x ≤ k → low_sum s x ≡ each_least s x
  low_sum-before k crossing x first =
      let grows = gap-grows x k first (omega (arith, crossing.few)) crossing.steeper in
      let before = crossing.before in
      omega (arith, ints, clamps)

  low_sum-after : (k : ℕ) → IsCrossing s k → (x : ℕ) → k < x → x ≤ s.count → low_sum s x ≡ others_greatest s x
  low_sum-after k crossing x later within =
      let grows = gap-grows (k + 1) x (omega arith) within crossing.steeper in
      let after = crossing.after in
      omega (arith, ints, clamps)

-- the numbers beside the crossing point, or the nearest from a to b, are where the least sum changes its step
pub AreTurns-crossing : (s : SplitFigures) (k : ℕ) → IsCrossing s k → (a b p q : ℕ) → a ≤ b → b ≤ s.count
    → p ≡ min (max k a) b → q ≡ min (max (k + 1) a) b → AreTurns s a b (p, q)
AreTurns-crossing s k crossing a b p q order within p_is q_is = record {
  from = omega arith;
  to = omega arith;
  order = omega arith;
  beside = omega arith;
  first = record {
    next = λ x from before.
        let at = low_sum-before s k crossing x (omega arith) in
        let next = low_sum-before s k crossing (x + 1) (omega arith) in
        omega (arith, ints);
  };
  second = record {
    next = λ x from before.
        let at = low_sum-after s k crossing x (omega arith) (omega arith) in
        let next = low_sum-after s k crossing (x + 1) (omega arith) (omega arith) in
        let others = minus-times s.count x s.max (omega arith) in
        let others_next = minus-times s.count (x + 1) s.max (omega arith) in
        omega (arith, ints);
  };
}

-- where the greatest value is `apart` above the least, and the sum `missing` below that of as many of the greatest
module _ (s : SplitFigures) (split : IsSplit s) (apart missing : ℕ) (apart_is : pos apart ≡ (s.max -ℤ s.min))
    (missing_is : pos missing ≡ ((pos s.count *ℤ s.max) -ℤ s.sum)) where
  apart-times : (n : ℕ) → pos (n * apart) ≡ ((pos n *ℤ s.max) -ℤ (pos n *ℤ s.min))
  apart-times n =
      let same = ap (λ z. pos n *ℤ z) apart_is in
      let parts = times-minus n s.max s.min in
      cc

  gap-is : (x : ℕ) → x ≤ s.count → (others_greatest s x -ℤ each_least s x) ≡ (pos (x * apart) -ℤ pos missing)
  gap-is x within =
      let is = gap s x within in
      let times = apart-times x in
      let parts = times-minus x s.max s.min in
      omega (arith, ints)

  missing-low : missing + apart ≤ s.count * apart
  missing-low =
      let low = split.sum_low in
      let rest = minus-times s.count 1 s.min (omega (arith, split.count_low)) in
      let times = apart-times s.count in
      omega (arith, ints)

  -- the lines cross where a division says, or they are one
  pub IsCrossing-apart : 0 < apart → IsCrossing s (missing / apart)
  IsCrossing-apart more =
      let below : missing / apart * apart ≤ missing = div-mul-le_self missing apart in
      let above : missing < missing / apart * apart + apart = lt-div-mul-add {a = missing} more in
      let few : missing / apart < s.count = div_below missing apart s.count more (omega (arith, missing-low)) in
      let at = gap-is (missing / apart) (omega arith) in
      let next = gap-is (missing / apart + 1) (omega arith) in
      record { steeper = split.order; few = few; before = omega (arith, ints); after = omega (arith, ints) }

  pub IsCrossing-same : apart ≡ 0 → IsCrossing s 0
  IsCrossing-same none =
      let low : missing + 0 ≤ s.count * 0 = rw none at missing-low in
      let at = gap-is 0 (omega arith) in
      let next = gap-is 1 (omega (arith, split.count_low)) in
      record { steeper = split.order; few = omega (arith, split.count_low); before = omega (arith, ints); after = omega (arith, ints) }
