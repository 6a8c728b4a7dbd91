-- What the code holds of whole numbers in 128 bits is these numbers.
use Rattle.std.specs.Prelude.{◌≡◌, ℕ, ◌-◌, ◌^◌, ◌<◌, ◌≤◌, ℤ, pos, ◌-ℤ◌, ◌*ℤ◌, FitsSigned, unsigned_abs}
use Rattle.std.specs.Int.{w64, w128, int_max}
use Rattle.std.proofs.Common.{ap, ap₂, arith, ◌∙◌}
use Rattle.std.proofs.lemmas.Int.{ints, clamps, to_z-of_z}
use Rattle.ss_bounds.specs.Split.{SplitFigures, IsSplit, low_sum}
use Rattle.ss_bounds.proofs.Numbers.{minus-times, times-up, times-down}
use mir.Val.{to_z, of_z}

abbrev pub held : ℤ → ℤ
held z = to_z w128 (of_z w128 z)

abbrev pub held64 : ℤ → ℤ
held64 z = to_z w64 (of_z w64 z)

pub held-is : (z a : ℤ) → z ≡ a → FitsSigned w128 a → held z ≡ a
held-is z a same fits = ap held same ∙ to_z-of_z w128 a fits

pub fits-wider : (a : ℤ) → FitsSigned w64 a → FitsSigned w128 a
fits-wider a fits = omega (arith, ints)

pub fits-few : (n : ℕ) → n ≤ 2 ^ 40 → FitsSigned w128 (pos n)
fits-few n few = omega (arith, ints)

pub fits-times : (n : ℕ) (a : ℤ) → n ≤ 2 ^ 40 → FitsSigned w64 a → FitsSigned w128 (pos n *ℤ a)
fits-times n a few fits =
    let high = times-up n a few fits in
    let low = times-down n a few fits in
    omega (arith, ints)

-- a product as the code makes it
pub held-times : (z w : ℤ) (n : ℕ) (a : ℤ) → z ≡ pos n → w ≡ held64 a → n ≤ 2 ^ 40 → FitsSigned w64 a
    → held (held z *ℤ held w) ≡ (pos n *ℤ a)
held-times z w n a z_is w_is few fits =
    let number = held-is z (pos n) z_is (fits-few n few) in
    let value = held-is w a (w_is ∙ to_z-of_z w64 a fits) (fits-wider a fits) in
    held-is _ _ (ap₂ (λ p q. p *ℤ q) number value) (fits-times n a few fits)

module _ (s : SplitFigures) (split : IsSplit s) where
  pub sum-small : unsigned_abs s.sum < 2 ^ 105
  sum-small =
      let low = split.sum_low in
      let high = split.sum_high in
      let least = times-down (s.count - 1) s.min (omega (arith, split.count_high)) split.min_fits in
      let greatest = times-up (s.count - 1) s.max (omega (arith, split.count_high)) split.max_fits in
      let min_fits = split.min_fits in
      let max_fits = split.max_fits in
      omega (arith, ints)

  pub sum-fits : FitsSigned w128 s.sum
  sum-fits = let small = sum-small in omega (arith, ints)

  pub rest-fits : (x : ℕ) → FitsSigned w128 (s.sum -ℤ (pos (s.count - x) *ℤ s.max))
  rest-fits x =
      let small = sum-small in
      let high = times-up (s.count - x) s.max (omega (arith, split.count_high)) split.max_fits in
      let low = times-down (s.count - x) s.max (omega (arith, split.count_high)) split.max_fits in
      omega (arith, ints)

  pub low_sum-small : (x : ℕ) → x ≤ s.count → unsigned_abs (low_sum s x) < 2 ^ 106
  low_sum-small x within =
      let small = sum-small in
      let min_high = times-up x s.min (omega (arith, split.count_high)) split.min_fits in
      let min_low = times-down x s.min (omega (arith, split.count_high)) split.min_fits in
      let max_high = times-up (s.count - x) s.max (omega (arith, split.count_high)) split.max_fits in
      let max_low = times-down (s.count - x) s.max (omega (arith, split.count_high)) split.max_fits in
      omega (arith, ints, clamps)

  pub low_sum-fits : (x : ℕ) → x ≤ s.count → FitsSigned w128 (low_sum s x)
  low_sum-fits x within = let small = low_sum-small x within in omega (arith, ints)

-- what the code computes of x values is their least sum
pub computed-low_sum : (s : SplitFigures) → IsSplit s → (x : ℕ) → x ≤ s.count → (x_held min_held others_held max_held found : ℤ)
    → x_held ≡ pos x → min_held ≡ held64 s.min → others_held ≡ pos (s.count - x) → max_held ≡ held64 s.max
    → found ≡ int_max (held (held x_held *ℤ held min_held)) (held (held s.sum -ℤ held (held others_held *ℤ held max_held)))
    → held found ≡ low_sum s x
computed-low_sum s split x within x_held min_held others_held max_held found x_is min_is others_is max_is found_is =
    let alone = held-times x_held min_held x s.min x_is min_is (omega (arith, split.count_high)) split.min_fits in
    let others = held-times others_held max_held (s.count - x) s.max others_is max_is (omega (arith, split.count_high)) split.max_fits in
    let sum = to_z-of_z w128 s.sum (sum-fits s split) in
    let rest = held-is _ _ (ap₂ (λ p q. p -ℤ q) sum others) (rest-fits s split x) in
    held-is found _ (found_is ∙ ap₂ int_max alone rest) (low_sum-fits s split x within)

pub computed-rest : (s : SplitFigures) → IsSplit s → (x : ℕ) → (others_held max_held : ℤ)
    → others_held ≡ pos (s.count - x) → max_held ≡ held64 s.max
    → FitsSigned w128 (held s.sum -ℤ held (held others_held *ℤ held max_held))
computed-rest s split x others_held max_held others_is max_is =
    let others = held-times others_held max_held (s.count - x) s.max others_is max_is (omega (arith, split.count_high)) split.max_fits in
    let sum = to_z-of_z w128 s.sum (sum-fits s split) in
    rw (ap₂ (λ p q. p -ℤ q) sum others) (rest-fits s split x)

-- what the code computes of how far the values are apart, and of how much the sum is short of that of the greatest alone
pub computed-apart : (s : SplitFigures) → IsSplit s → (apart : ℕ) → apart ≡ unsigned_abs (held64 s.max -ℤ held64 s.min)
    → pos apart ≡ (s.max -ℤ s.min)
computed-apart s split apart apart_is =
    let max_is = to_z-of_z w64 s.max split.max_fits in
    let min_is = to_z-of_z w64 s.min split.min_fits in
    let same = apart_is ∙ ap₂ (λ p q. unsigned_abs (p -ℤ q)) max_is min_is in
    let order = split.order in
    omega (arith, ints)

pub computed-missing : (s : SplitFigures) → IsSplit s → (count_held max_held : ℤ) (missing : ℕ)
    → count_held ≡ pos s.count → max_held ≡ held64 s.max
    → missing ≡ unsigned_abs (held (held count_held *ℤ held max_held) -ℤ held s.sum)
    → pos missing ≡ ((pos s.count *ℤ s.max) -ℤ s.sum)
computed-missing s split count_held max_held missing count_is max_is missing_is =
    let all = held-times count_held max_held s.count s.max count_is max_is split.count_high split.max_fits in
    let sum = to_z-of_z w128 s.sum (sum-fits s split) in
    let same = missing_is ∙ ap₂ (λ p q. unsigned_abs (p -ℤ q)) all sum in
    let high = split.sum_high in
    let order = split.order in
    let rest = minus-times s.count 1 s.max (omega (arith, split.count_low)) in
    omega (arith, ints)
