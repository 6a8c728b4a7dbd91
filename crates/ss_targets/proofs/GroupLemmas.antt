-- Windows in groups: where a group and its windows start, and what a walk over the groups finds.
use Rattle.std.proofs.Common.{ℕ, zero, suc, ◌≡◌, ◌+◌, ◌-◌, ◌*◌, ◌/◌, ◌<◌, ◌≤◌, inl, inr, refl, sym, ap, add-one, arith}
use Rattle.std.proofs.Math.Nat.{mul-pos, div-mul-le_self, lt-div-mul-add}
use Rattle.std.proofs.lemmas.Bool.{cases_lt}
use Rattle.std.proofs.lemmas.Nat.{div_below}
use Rattle.ss_targets.specs.FirstFit.{FindsOfLength, NoneOfLength}
use Rattle.ss_targets.specs.Groups.{grouped}
use Rattle.ss_targets.specs.Windowing.{cut, Holds, ArePositive}
use Rattle.ss_base.specs.declared.limits.TheConstants.{MOST_VALUES}
use Rattle.ss_targets.proofs.WindowingLemmas.{cut-monotone, index_le_cut, window_index-holds}

-- a window has the length of its group
pub grouped-group : (sizes lengths : ℕ → ℕ) (g k : ℕ) → ArePositive sizes → k < sizes g → grouped sizes lengths (cut sizes g + k) ≡ lengths g
grouped-group sizes lengths g k some inside =
    ap lengths (window_index-holds sizes g (cut sizes g + k) some (record { start = omega arith; end = omega arith }))

-- along a group each window adds one length
pub cut-along : (sizes lengths : ℕ → ℕ) (g k : ℕ) → ArePositive sizes → k ≤ sizes g →
    cut (grouped sizes lengths) (cut sizes g + k) ≡ cut (grouped sizes lengths) (cut sizes g) + k * lengths g
cut-along sizes lengths g zero some inside = let same : cut sizes g + 0 ≡ cut sizes g = omega arith in rw same (omega arith)
cut-along sizes lengths g (suc k) some inside =
    let same : cut sizes g + suc k ≡ suc (cut sizes g + k) = omega arith in
    rw same (omega (arith, cut-along sizes lengths g k some (omega arith), grouped-group sizes lengths g k some inside))

-- a group starts where the groups before it end
pub cut-groups : (sizes lengths : ℕ → ℕ) (g : ℕ) → ArePositive sizes →
    cut (grouped sizes lengths) (cut sizes g) ≡ cut (λ j. sizes j * lengths j) g
cut-groups sizes lengths zero some = refl
cut-groups sizes lengths (suc g) some =
    omega (arith, cut-along sizes lengths g (sizes g) some (omega arith), cut-groups sizes lengths g some)

-- group g begins at window `index` and at age `start`, and at or before an age
pub record InGroup (sizes lengths : ℕ → ℕ) (g index start age : ℕ) : Type 0 where
  pub index_is : index ≡ cut sizes g
  pub start_is : start ≡ cut (grouped sizes lengths) index
  pub begun : start ≤ age

module _ (sizes lengths : ℕ → ℕ) {g index start age : ℕ} (some : ArePositive sizes) (full : ArePositive (grouped sizes lengths))
    (at : InGroup sizes lengths g index start age) where
  pub length-positive : 0 < lengths g
  length-positive = omega (arith, full (cut sizes g + 0), grouped-group sizes lengths g 0 some (some g))

  pub span-positive : 0 < sizes g * lengths g
  span-positive = mul-pos (some g) length-positive

  pub group_le_age : g ≤ index × index ≤ start × start ≤ age
  group_le_age = (
    omega (arith, at.index_is, index_le_cut sizes g some),
    omega (arith, at.start_is, index_le_cut (grouped sizes lengths) index full),
    at.begun,
  )

  -- where the next group starts
  pub cut-next : cut (grouped sizes lengths) (index + sizes g) ≡ start + sizes g * lengths g
  cut-next = rw (at.start_is, at.index_is) (cut-along sizes lengths g (sizes g) some (omega arith))

  pub InGroup-next : start + sizes g * lengths g ≤ age → InGroup sizes lengths (g + 1) (index + sizes g) (start + sizes g * lengths g) age
  InGroup-next past = record {
    index_is = rw add-one (omega (arith, at.index_is));
    start_is = sym cut-next;
    begun = past;
  }

  -- the window that holds the age, in the last group that has begun
  module _ (last : age - start < sizes g * lengths g) where
    place-below : (age - start) / lengths g < sizes g
    place-below = div_below (age - start) (lengths g) (sizes g) length-positive last

    pub grouped-place : lengths g ≡ grouped sizes lengths (index + (age - start) / lengths g)
    grouped-place = rw at.index_is (sym (grouped-group sizes lengths g _ some place-below))

    pub cut-place : start + (age - start) / lengths g * lengths g ≡ cut (grouped sizes lengths) (index + (age - start) / lengths g)
    cut-place =
        let along = cut-along sizes lengths g ((age - start) / lengths g) some (omega (arith, place-below)) in
        rw at.index_is (omega (arith, along, rw at.index_is at at.start_is))

    pub holds-place : Holds (grouped sizes lengths) (index + (age - start) / lengths g) age
    holds-place = record {
      start = omega (arith, cut-place, div-mul-le_self (age - start) (lengths g));
      end = omega (arith, cut-place, grouped-place, lt-div-mul-add {a = age - start} length-positive);
    }

  -- where the windows of the newer groups and of this one are shorter than a length
  module _ {wanted : ℕ} (before : (j : ℕ) → j < index → grouped sizes lengths j < wanted) (short : lengths g < wanted) where
    pub short-next : (j : ℕ) → j < index + sizes g → grouped sizes lengths j < wanted
    short-next j inside = elim (cases_lt j index) [
      | inl newer ↦ before j newer
      | inr here ↦
          (let place : j ≡ cut sizes g + (j - index) = omega (arith, at.index_is) in
          rw place (omega (arith, grouped-group sizes lengths g (j - index) some (omega arith))))
    ]

    pub NoneOfLength-next : age ≡ MOST_VALUES → age - start < sizes g * lengths g → NoneOfLength (grouped sizes lengths) 0 wanted
    NoneOfLength-next most past j from enough = elim (cases_lt j (index + sizes g)) [
      | inl inside ↦ absurd (omega (arith, short-next j inside))
      | inr after ↦ omega (arith, cut-next, at.begun, cut-monotone (grouped sizes lengths) (index + sizes g) j after)
    ]

  pub FindsOfLength-group : {wanted : ℕ} → ((j : ℕ) → j < index → grouped sizes lengths j < wanted) → wanted ≤ lengths g → age ≡ MOST_VALUES →
      FindsOfLength (grouped sizes lengths) 0 wanted (record { index = index; start = start; len = lengths g })
  FindsOfLength-group before long most =
      let same : cut sizes g + 0 ≡ index = omega (arith, at.index_is) in
      let first : lengths g ≡ grouped sizes lengths index = rw same at (sym (grouped-group sizes lengths g 0 some (some g))) in
      record {
        window = record { start = at.start_is; len = first };
        first = record {
          reached = omega arith;
          long = omega (arith, first);
          least = λ j from enough. elim (cases_lt j index) [ inl newer ↦ absurd (omega (arith, before j newer)) | inr here ↦ here ];
        };
        early = omega (arith, at.begun);
      }
