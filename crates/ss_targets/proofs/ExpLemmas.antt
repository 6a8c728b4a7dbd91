-- The starts of an exponential target's windows, group by group.
use Rattle.std.proofs.Common.{ℕ, zero, suc, ◌≡◌, ◌+◌, ◌-◌, ◌*◌, ◌/◌, ◌^◌, ◌<◌, ◌≤◌, inl, inr, sym, ap, ◌∙◌, add-one, arith}
use Rattle.std.proofs.Math.Nat.{mul_comm, mul-pos, mul-le-mul, mul-le-mul_right, div-mul-le_self, lt-div-mul-add, pow-suc}
use Rattle.std.proofs.lemmas.Bool.{cases_lt}
use Rattle.std.proofs.lemmas.Nat.{div-mul-add, div_below}
use Rattle.ss_targets.specs.Exp.{exp_length, IsExp}
use Rattle.ss_targets.specs.ExpLaws.{exp_length-positive}
use Rattle.ss_targets.specs.FirstFit.{FindsOfLength, NoneOfLength}
use Rattle.ss_targets.specs.Windowing.{cut, Holds}
use Rattle.ss_base.specs.declared.limits.TheConstants.{MOST_VALUES}
use Rattle.ss_targets.proofs.WindowingLemmas.{cut-monotone, index_le_cut}

-- a window's length by its group and its place in the group
pub exp_length-group : (b r s g k : ℕ) → k < r → exp_length b r s (r * g + k) ≡ s * b ^ g
exp_length-group b r s g k inside =
    ap (λ n. s * b ^ ((n + k) / r)) (mul_comm r g) ∙ ap (λ q. s * b ^ q) (div-mul-add g r k inside)

-- along a group each window adds one length
pub cut-group : (b r s g k : ℕ) → k ≤ r → cut (exp_length b r s) (r * g + k) ≡ cut (exp_length b r s) (r * g) + k * (s * b ^ g)
cut-group b r s g zero inside = let same : r * g + 0 ≡ r * g = omega arith in rw same (omega arith)
cut-group b r s g (suc k) inside =
    let same : r * g + suc k ≡ suc (r * g + k) = omega arith in
    rw same (omega (arith, cut-group b r s g k (omega arith), exp_length-group b r s g k inside))

-- group g starts at or before an age, and len is the length of its windows
pub record InGroup (b r s g start len age : ℕ) : Type 0 where
  pub len_is : len ≡ s * b ^ g
  pub start_is : start ≡ cut (exp_length b r s) (r * g)
  pub begun : start ≤ age
  pub short : len ≤ 2 ^ 44

-- a target and one of its groups, at one age
module _ {b r s g start len age : ℕ} (in_range : IsExp b r s) (at : InGroup b r s g start len age) where
  len-positive : 0 < len
  len-positive = omega (arith, exp_length-positive in_range (r * g + 0), exp_length-group b r s g 0 in_range.repeat_low)

  pub group-positive : 0 < r * len
  group-positive = mul-pos in_range.repeat_low len-positive

  pub group_le_age : g ≤ r * g × r * g ≤ age
  group_le_age = (omega (arith, mul-le-mul_right g in_range.repeat_low), omega (arith, index_le_cut (exp_length b r s) (r * g) (exp_length-positive in_range)))

  -- where the next group starts
  cut-next : cut (exp_length b r s) (r * (g + 1)) ≡ start + r * len
  cut-next =
      let next : r * (g + 1) ≡ r * g + r = omega arith in
      rw (next, at.len_is) (omega (arith, cut-group b r s g r (omega arith), at.start_is))

  pub InGroup-next : age ≤ 2 ^ 40 → r * len ≤ age - start → InGroup b r s (g + 1) (start + r * len) (len * b) age
  InGroup-next recent past =
      let before : len ≤ 2 ^ 40 = omega (arith, mul-le-mul_right len in_range.repeat_low) in
      record {
        len_is = rw (add-one, pow-suc, at.len_is) (omega arith);
        start_is = sym cut-next;
        begun = omega arith;
        short = mul-le-mul before in_range.base_high;
      }

  -- the window that holds the age, in the last group that has begun
  module _ (last : age - start < r * len) where
    place-below : (age - start) / len < r
    place-below = div_below (age - start) len r len-positive last

    pub exp_length-place : len ≡ exp_length b r s (r * g + (age - start) / len)
    exp_length-place = at.len_is ∙ sym (exp_length-group b r s g _ place-below)

    pub cut-place : start + (age - start) / len * len ≡ cut (exp_length b r s) (r * g + (age - start) / len)
    cut-place =
        let along = cut-group b r s g ((age - start) / len) (omega (arith, place-below)) in
        cc

    pub holds-place : Holds (exp_length b r s) (r * g + (age - start) / len) age
    holds-place = record {
      start = omega (arith, cut-place, div-mul-le_self (age - start) len);
      end = omega (arith, cut-place, exp_length-place, lt-div-mul-add {a = age - start} len-positive);
    }

    pub place_le_age : r * g + (age - start) / len ≤ age
    place_le_age = omega (arith, holds-place.start, index_le_cut (exp_length b r s) (r * g + (age - start) / len) (exp_length-positive in_range))

  -- where the windows of the newer groups and of this one are shorter than a length
  module _ {wanted : ℕ} (before : (j : ℕ) → j < r * g → exp_length b r s j < wanted) (short : len < wanted) where
    pub short-next : (j : ℕ) → j < r * (g + 1) → exp_length b r s j < wanted
    short-next j inside = elim (cases_lt j (r * g)) [
      | inl newer ↦ before j newer
      | inr here ↦
          (let place : j ≡ r * g + (j - r * g) = omega arith in
          rw place (omega (arith, exp_length-group b r s g (j - r * g) (omega arith), at.len_is)))
    ]

    pub NoneOfLength-next : age ≡ MOST_VALUES → age - start < r * len → NoneOfLength (exp_length b r s) 0 wanted
    NoneOfLength-next most past j from enough = elim (cases_lt j (r * (g + 1))) [
      | inl inside ↦ absurd (omega (arith, short-next j inside))
      | inr after ↦ omega (arith, cut-next, at.begun, cut-monotone (exp_length b r s) (r * (g + 1)) j after)
    ]

  pub FindsOfLength-group : {wanted : ℕ} → ((j : ℕ) → j < r * g → exp_length b r s j < wanted) → wanted ≤ len → age ≡ MOST_VALUES →
      FindsOfLength (exp_length b r s) 0 wanted (record { index = r * g; start = start; len = len })
  FindsOfLength-group before long most =
      let first : len ≡ exp_length b r s (r * g + 0) = at.len_is ∙ sym (exp_length-group b r s g 0 in_range.repeat_low) in
      let same : r * g + 0 ≡ r * g = omega arith in
      record {
        window = record { start = at.start_is; len = rw same at first };
        first = record {
          reached = omega arith;
          long = omega (arith, rw same at first);
          least = λ j from enough. elim (cases_lt j (r * g)) [ inl newer ↦ absurd (omega (arith, before j newer)) | inr here ↦ here ];
        };
        early = omega (arith, at.begun);
      }
