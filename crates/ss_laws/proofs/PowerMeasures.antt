-- How long the windows of a power-law target are by their age, and how many of them hold so many values.
use Rattle.std.proofs.Common.{ℕ, zero, suc, ◌≡◌, ◌+◌, ◌-◌, ◌*◌, ◌^◌, ◌<◌, ◌≤◌, inl, inr, ap, ◌∙◌, arith, refl}
use Rattle.std.proofs.Math.Nat.{mul-le-mul_left, mul-le-mul_right, pow-le-pow_left, pow-suc, pow-succ', pow-zero, le_trans}
use Rattle.std.proofs.lemmas.Bool.{cases_lt}
use Rattle.ss_targets.specs.Windowing.{cut, window_index}
use Rattle.ss_targets.proofs.WindowingLemmas.{cut-monotone, holds-window_index, index_le_cut}
use Rattle.ss_targets.specs.Power.{group_size, power_length, IsPower}
use Rattle.ss_targets.specs.PowerLaws.{power_length-positive}
use Rattle.ss_targets.specs.PowerSum.{power_sum}
use Rattle.ss_targets.proofs.PowerLemmas.{cut-power_sum, cut-sizes, group_size-positive}
use Rattle.ss_model.specs.Decay.{cover}
use Rattle.ss_model.proofs.DecayLemmas.{cover_le}

-- the next power is no more than this one and its slope there
step : (e m x y z : ℕ) → y ≤ x + (e + 1) * z → x ≤ y → y ≡ z * (m + 1) → y * (m + 1) ≤ x * m + (e + 1 + 1) * y
step e m x y z before less is =
    let parted : (x + (e + 1) * z) * m ≡ x * m + (e + 1) * (z * m) = omega arith in
    let under : z * m ≤ y = omega (arith, is) in
    omega (arith, mul-le-mul_right m before, parted, mul-le-mul_left (e + 1) under)

pow-slope : (e m : ℕ) → (m + 1) ^ (e + 1) ≤ m ^ (e + 1) + (e + 1) * (m + 1) ^ e
pow-slope zero m = rw (pow-suc (m + 1) 0, pow-suc m 0, pow-zero (m + 1), pow-zero m) (omega arith)
pow-slope (suc e) m =
    let one : suc e ≡ e + 1 = omega arith in
    let two : e + 1 + 1 ≡ suc (e + 1) = omega arith in
    let back : e + 1 ≡ suc e = omega arith in
    let is : (m + 1) ^ (e + 1) ≡ (m + 1) ^ e * (m + 1) = ap (λ k. (m + 1) ^ k) back ∙ pow-suc (m + 1) e in
    let above : (m + 1) ^ (e + 1 + 1) ≡ (m + 1) ^ (e + 1) * (m + 1) = ap (λ k. (m + 1) ^ k) two ∙ pow-suc (m + 1) (e + 1) in
    let below : m ^ (e + 1 + 1) ≡ m ^ (e + 1) * m = ap (λ k. m ^ k) two ∙ pow-suc m (e + 1) in
    let less : m ^ (e + 1) ≤ (m + 1) ^ (e + 1) = pow-le-pow_left (omega arith) (e + 1) in
    rw (one, above, below) (step e m (m ^ (e + 1)) ((m + 1) ^ (e + 1)) ((m + 1) ^ e) (pow-slope e m) less is)

-- a power sum is at least the next power over its exponent, and at most that power
sum-above : (e m : ℕ) → m ^ (e + 1) ≤ (e + 1) * power_sum e m
sum-above e zero =
    let back : e + 1 ≡ suc e = omega arith in
    let none : 0 ^ (e + 1) ≡ 0 ^ e * 0 = ap (λ k. 0 ^ k) back ∙ pow-suc 0 e in
    omega (arith, none)
sum-above e (suc m) =
    let next : suc m ≡ m + 1 = omega arith in
    let all : (e + 1) * (power_sum e m + (m + 1) ^ e) ≡ (e + 1) * power_sum e m + (e + 1) * (m + 1) ^ e = omega arith in
    rw next (omega (arith, sum-above e m, pow-slope e m))

sum-below : (e m : ℕ) → power_sum e m ≤ m * m ^ e
sum-below e zero = omega arith
sum-below e (suc m) =
    let next : suc m ≡ m + 1 = omega arith in
    let less : m ≤ m + 1 = omega arith in
    rw next (omega (arith, sum-below e m, mul-le-mul_left m (pow-le-pow_left less e)))

-- the values of the first groups are at least the power of their number
cut-above : (p q r s g : ℕ) → IsPower p q r s →
    r * s * g ^ (p + q) ≤ (p + q) * cut (power_length p q r s) (cut (group_size p r) g)
cut-above p q r s g h =
    let exponent : p - 1 + q + 1 ≡ p + q = omega (arith, h.power_low) in
    let above = mul-le-mul_left (r * s) (sum-above (p - 1 + q) g) in
    rw (cut-power_sum p q r s g h) (omega (arith, rw exponent at above))

pub cover-power : (p q r s n g : ℕ) → IsPower p q r s → (p + q) * n ≤ r * s * g ^ (p + q) → cover (power_length p q r s) n ≤ r * g ^ p
cover-power p q r s n g h enough =
    let len = power_length p q r s in
    let k = cut (group_size p r) g in
    let exponent : p ≡ suc (p - 1) = omega (arith, h.power_low) in
    let power : g ^ p ≡ g * g ^ (p - 1) = ap (λ e. g ^ e) exponent ∙ pow-succ' g (p - 1) in
    let few = mul-le-mul_left r (sum-below (p - 1) g) in
    let inside : n ≤ cut len k = elim (cases_lt (cut len k) n) [
      | inl more ↦ absurd (omega (arith, enough, cut-above p q r s g h, h.power_low, mul-le-mul_left (p + q) more))
      | inr inside ↦ inside
    ] in
    rw power (le_trans (cover_le len n k (power_length-positive h) inside) (rw (cut-sizes p r g) few))

-- windows of the first groups are no longer than the last of these groups'
length-before : (p q r s g i : ℕ) → IsPower p q r s → i < cut (group_size p r) g → power_length p q r s i ≤ s * g ^ q
unfolding power_length
length-before p q r s g i h inside =
    let sizes = group_size p r in
    let j = window_index sizes i in
    let here = holds-window_index sizes i (group_size-positive h) in
    let below : j + 1 ≤ g = elim (cases_lt j g) [
      | inl before ↦ omega (arith, before)
      | inr after ↦ absurd (omega (arith, here.start, cut-monotone sizes g j after))
    ] in
    mul-le-mul_left s (pow-le-pow_left below q)

pub length-power : (p q r s age g : ℕ) → IsPower p q r s → (p + q) * age < r * s * g ^ (p + q)
    → power_length p q r s (window_index (power_length p q r s) age) ≤ s * g ^ q
length-power p q r s age g h young =
    let len = power_length p q r s in
    let i = window_index len age in
    let k = cut (group_size p r) g in
    let begun = (holds-window_index len age (power_length-positive h)).start in
    let inside : i < k = elim (cases_lt i k) [
      | inl before ↦ before
      | inr after ↦ absurd (omega (arith, young, cut-above p q r s g h, mul-le-mul_left (p + q) (le_trans (cut-monotone len k i after) begun)))
    ] in
    length-before p q r s g i h inside

one-pow : (n : ℕ) → 1 ^ n ≡ 1
one-pow zero = refl
one-pow (suc n) = omega (arith, pow-suc 1 n, one-pow n)

-- the first group has r windows, each of one value where s is 1
pub length-power_newest : (p q r age : ℕ) → IsPower p q r 1 → age < r → power_length p q r 1 (window_index (power_length p q r 1) age) ≡ 1
length-power_newest p q r age h young =
    let len = power_length p q r 1 in
    let i = window_index len age in
    let begun = (holds-window_index len age (power_length-positive h)).start in
    let early = index_le_cut len i (power_length-positive h) in
    let begins : cut (group_size p r) 1 ≡ 0 + r * 1 ^ (p - 1) = refl in
    let whole : 0 + r * 1 ^ (p - 1) ≡ r = rw one-pow (omega arith) in
    let first : cut (group_size p r) 1 ≡ r = begins ∙ whole in
    let inside : i < cut (group_size p r) 1 = omega (arith, begun, early, young, first) in
    let short : len i ≤ 1 = omega (arith, length-before p q r 1 1 i h inside, one-pow q) in
    omega (arith, short, power_length-positive h i)
