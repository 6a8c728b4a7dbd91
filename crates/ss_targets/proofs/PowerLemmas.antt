-- The groups of a power-law target: where they start, and what a look-up finds in one.
use Rattle.std.proofs.Common.{ℕ, zero, suc, ◌≡◌, ◌+◌, ◌-◌, ◌*◌, ◌/◌, ◌^◌, ◌<◌, ◌≤◌, inl, inr}
use Rattle.std.proofs.Common.{refl, sym, ap, ◌∙◌, lit≤, add-one, arith}
use Rattle.std.proofs.Math.Nat.{mul-pos, one-le-pow, le_trans, mul-le-mul, mul-le-mul_left, mul-mul-mul_comm}
use Rattle.std.proofs.Math.Nat.{pow-le-pow_left, mul-div-le, lt-mul-div-succ, div-le_self}
use Rattle.std.proofs.lemmas.Bool.{cases_lt}
use Rattle.std.proofs.lemmas.Nat.{pow-add}
use Rattle.ss_targets.specs.FirstFit.{FindsOfLength, NoneOfLength}
use Rattle.ss_targets.specs.Groups.{grouped}
use Rattle.ss_targets.specs.Windowing.{cut, Holds, window_index, ArePositive}
use Rattle.ss_targets.specs.declared.decay.Spot.{Spot}
use Rattle.ss_base.specs.declared.limits.TheConstants.{MOST_VALUES}
use Rattle.ss_targets.proofs.WindowingLemmas.{cut-monotone, holds-window_index, index_le_cut}
use Rattle.ss_targets.proofs.GroupLemmas as Groups
use Rattle.ss_targets.proofs.GroupLemmas.{InGroup, cut-groups}
use Rattle.ss_targets.specs.Power.{group_size, group_length, power_length, IsPower}
use Rattle.ss_targets.specs.PowerLaws.{power_length-positive}
use Rattle.ss_targets.specs.PowerSum.{cap, power_sum}
use Rattle.ss_targets.proofs.SumLemmas.{power-small, within-cap, lt-power_sum-cap}

pub group_size-positive : {p q r s : ℕ} → IsPower p q r s → ArePositive (group_size p r)
group_size-positive {p} h g = mul-pos h.repeat_low (one-le-pow (p - 1) (g + 1) (omega arith))

-- a group has its first window at r times a power sum
pub cut-sizes : (p r g : ℕ) → cut (group_size p r) g ≡ r * power_sum (p - 1) g
cut-sizes p r zero = omega arith
cut-sizes p r (suc g) = omega (arith, cut-sizes p r g)

-- a group starts at r * s times the power sum of the groups before it
span : (p q r s g : ℕ) → group_size p r g * group_length q s g ≡ r * s * (g + 1) ^ (p - 1 + q)
span p q r s g = mul-mul-mul_comm r ((g + 1) ^ (p - 1)) s ((g + 1) ^ q) ∙ ap (λ n. r * s * n) (sym (pow-add (g + 1) (p - 1) q))

span-sum : (p q r s g : ℕ) → cut (λ j. group_size p r j * group_length q s j) g ≡ r * s * power_sum (p - 1 + q) g
span-sum p q r s zero = omega arith
span-sum p q r s (suc g) = omega (arith, span-sum p q r s g, span p q r s g)

pub cut-power_sum : (p q r s g : ℕ) → IsPower p q r s → cut (power_length p q r s) (cut (group_size p r) g) ≡ r * s * power_sum (p - 1 + q) g
unfolding power_length
cut-power_sum p q r s g h = cut-groups (group_size p r) (group_length q s) g (group_size-positive h) ∙ span-sum p q r s g

-- a number times a quotient, and times one more
times-within : (u a n : ℕ) → n ≤ a / u → u * n ≤ a
times-within u a n within = le_trans (mul-le-mul_left u within) (mul-div-le a u)

times-past : (u a n : ℕ) → 0 < u → a / u < n → a < u * n
times-past u a n some past =
    let more : a / u + 1 ≤ n = omega arith in
    omega (arith, lt-mul-div-succ a some, mul-le-mul_left u more)

module _ {p q r s : ℕ} (h : IsPower p q r s) where
  exponent-low : p - 1 + q ≤ 6
  exponent-low = omega (arith, h.power_high, h.widening_high)

  unit-positive : 0 < r * s
  unit-positive = mul-pos h.repeat_low h.scale_low

  -- what a sum that was compared with an age in units says of the start of a group
  pub start-within : {e u age : ℕ} (g : ℕ) → e ≡ p - 1 + q → u ≡ r * s → power_sum e g ≤ age / u → r * s * power_sum (p - 1 + q) g ≤ age
  start-within {e} {u} {age} g exponent unit within = rw (exponent, unit) at (times-within u age (power_sum e g) within)

  pub start-past : {e u age : ℕ} (g : ℕ) → e ≡ p - 1 + q → u ≡ r * s → age / u < power_sum e g → age < r * s * power_sum (p - 1 + q) g
  start-past {e} {u} {age} g exponent unit past =
      rw (exponent, unit) at (times-past u age (power_sum e g) (omega (arith, unit-positive)) past)

  -- such a group lies below the cap, and the group of each age does
  pub start-capped : (u g : ℕ) → power_sum (p - 1 + q) g ≤ MOST_VALUES / u → g < cap (p - 1 + q)
  start-capped u g within = within-cap (p - 1 + q) g exponent-low (le_trans within (div-le_self MOST_VALUES u))

  pub age-passed : (u : ℕ) {e age : ℕ} → e ≡ p - 1 + q → age ≤ MOST_VALUES → age / u < power_sum e (cap e)
  age-passed u {e} {age} exponent recent =
      rw exponent (omega (arith, lt-power_sum-cap (p - 1 + q) exponent-low, div-le_self age u))

  sizes : ArePositive (group_size p r)
  sizes = group_size-positive h

  lengths : ArePositive (grouped (group_size p r) (group_length q s))
  unfolding power_length
  lengths = power_length-positive h

  -- the length of a group below the cap
  pub length-power : {g : ℕ} → g < cap (p - 1 + q) → (g + 1) ^ q ≤ 2 ^ 42
  length-power {g} capped = power-small (p - 1 + q) q (g + 1) exponent-low (omega arith) (omega arith) (omega arith)

  pub length-small : {g : ℕ} → g < cap (p - 1 + q) → s * (g + 1) ^ q ≤ 2 ^ 58
  length-small capped = le_trans (mul-le-mul h.scale_high (length-power capped)) (lit≤ tt)

  -- the index of a group is at most its start
  pub index-small : (g : ℕ) → r * power_sum (p - 1) g ≤ r * s * power_sum (p - 1 + q) g
  index-small g =
      omega (arith, cut-sizes p r g, cut-power_sum p q r s g h, index_le_cut (power_length p q r s) (cut (group_size p r) g) (power_length-positive h))

  -- a group that starts at an age or before it
  in-group : (g age : ℕ) → r * s * power_sum (p - 1 + q) g ≤ age →
      InGroup (group_size p r) (group_length q s) g (cut (group_size p r) g) (r * s * power_sum (p - 1 + q) g) age
  unfolding power_length
  in-group g age begun = record { index_is = refl; start_is = sym (cut-power_sum p q r s g h); begun = begun }

  pub length-positive : (g : ℕ) → 0 < group_length q s g
  length-positive g = mul-pos h.scale_low (one-le-pow q (g + 1) (omega arith))

  -- the window of an age, in the last group that starts at it or before
  module _ (g age : ℕ) (begun : r * s * power_sum (p - 1 + q) g ≤ age) (next : age < r * s * power_sum (p - 1 + q) (g + 1)) where
    abbrev index : ℕ
    index = cut (group_size p r) g + (age - r * s * power_sum (p - 1 + q) g) / group_length q s g

    last : age - r * s * power_sum (p - 1 + q) g < group_size p r g * group_length q s g
    last = let past = rw add-one at next in omega (arith, span p q r s g)

    pub length-place : group_length q s g ≡ power_length p q r s index
    unfolding power_length
    length-place = Groups.grouped-place (group_size p r) (group_length q s) sizes lengths (in-group g age begun) last

    pub cut-place : r * s * power_sum (p - 1 + q) g + (age - r * s * power_sum (p - 1 + q) g) / group_length q s g * group_length q s g ≡
        cut (power_length p q r s) index
    unfolding power_length
    cut-place = Groups.cut-place (group_size p r) (group_length q s) sizes lengths (in-group g age begun) last

    pub holds-place : Holds (power_length p q r s) index age
    unfolding power_length
    holds-place = Groups.holds-place (group_size p r) (group_length q s) sizes lengths (in-group g age begun) last

    pub place_le_age : index ≤ age
    place_le_age = omega (arith, holds-place.start, index_le_cut (power_length p q r s) index (power_length-positive h))

  -- where the groups before one have windows shorter than a length
  module _ (g wanted : ℕ) (short : (newer : ℕ) → newer < g → group_length q s newer < wanted) where
    short-before : (j : ℕ) → j < cut (group_size p r) g → power_length p q r s j < wanted
    unfolding power_length
    short-before j inside =
        let newer = window_index (group_size p r) j in
        let here = holds-window_index (group_size p r) j sizes in
        let below : newer < g = elim (cases_lt newer g) [
          | inl before ↦ before
          | inr after ↦ absurd (omega (arith, here.start, cut-monotone (group_size p r) g newer after))
        ] in
        short newer below

    pub NoneOfLength-past : MOST_VALUES < r * s * power_sum (p - 1 + q) g → NoneOfLength (power_length p q r s) 0 wanted
    NoneOfLength-past past j from enough = elim (cases_lt j (cut (group_size p r) g)) [
      | inl inside ↦ absurd (omega (arith, short-before j inside))
      | inr after ↦ omega (arith, cut-power_sum p q r s g h, cut-monotone (power_length p q r s) (cut (group_size p r) g) j after)
    ]

    -- the first window of the group is found, where it begins early enough
    module _ (spot : Spot) (index_is : spot.index ≡ cut (group_size p r) g) (start_is : spot.start ≡ r * s * power_sum (p - 1 + q) g)
        (len_is : spot.len ≡ group_length q s g) (long : wanted ≤ group_length q s g) (early : r * s * power_sum (p - 1 + q) g ≤ MOST_VALUES) where
      found : FindsOfLength (power_length p q r s) 0 wanted
          (record { index = cut (group_size p r) g; start = r * s * power_sum (p - 1 + q) g; len = group_length q s g })
      unfolding power_length
      found = Groups.FindsOfLength-group (group_size p r) (group_length q s) sizes lengths (in-group g MOST_VALUES early) short-before long refl

      pub FindsOfLength-group : FindsOfLength (power_length p q r s) 0 wanted spot
      FindsOfLength-group = record {
        window = record { start = rw (start_is, index_is) found.window.start; len = rw (len_is, index_is) found.window.len };
        first = rw index_is found.first;
        early = rw start_is found.early;
      }

-- no group has shorter windows than a newer one
pub length-monotone : (q s i j : ℕ) → i ≤ j → group_length q s i ≤ group_length q s j
length-monotone q s i j order = mul-le-mul_left s (pow-le-pow_left (omega arith) q)
