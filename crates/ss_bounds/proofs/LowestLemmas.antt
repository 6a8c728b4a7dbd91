-- The fraction of a number that is in lowest terms: there is one alone, the definition gives it, and so does the code.
use Rattle.std.specs.Prelude.{◌≡◌, ℕ, zero, suc, ◌+◌, ◌-◌, ◌*◌, ◌/◌, ◌%◌, ◌<◌, ◌≤◌, Bool, true, false, if◌then◌else◌}
use Rattle.std.specs.Prelude.{ℤ, pos, ◌+ℤ◌, ◌-ℤ◌, ◌*ℤ◌, FitsSigned, unsigned_abs}
use Rattle.std.specs.Int.{◌∣◌, int_div_euclid, int_rem_euclid, IsGcd, w128}
use Rattle.std.proofs.Common.{ap, ap₂, arith, inl, inr, refl, subst, sym, ◌∙◌}
use Rattle.std.proofs.lemmas.Bool.{cases_lt, false≢true}
use Rattle.std.proofs.lemmas.Bool.Decides.{Decides-int_eq}
use Rattle.std.proofs.lemmas.Int.{ints, by_lt_z, to_z-of_z, unsigned_abs-mul}
use Rattle.std.proofs.lemmas.Nat.{mod-mul-add}
use Rattle.std.proofs.lemmas.Nat.Gcd.{IsGcd-from_mod, mod-eq-zero_of_dvd, le_of_dvd}
use Rattle.std.proofs.Math.Nat.{dvd-mul_right, dvd_of_mul-dvd-mul_right, mul-le-mul_left}
use Rattle.ss_summary.proofs.Bounds.{times-le-times}
use Rattle.ss_bounds.specs.declared.fraction.Fraction.{Fraction}
use Rattle.ss_bounds.specs.Fractions.{is_whole_by, whole_by, lowest, IsSame, IsLowest}
use Rattle.ss_bounds.specs.Means.{so_many}
use Rattle.ss_bounds.proofs.Held.{held}
use Rattle.ss_bounds.proofs.Numbers.{product-times, times-minus, times-plus}
use Rattle.ss_bounds.proofs.GuessLemmas.{div_euclid-rem, products-turned, product-turned}
use Rattle.ss_bounds.proofs.FractionLemmas.{times-same, IsSame-sym, IsSame-trans}

-- a quotient with no rest is the only one
exact-quotient : (u r : ℕ) (q z : ℤ) → r < u → ((pos u *ℤ q) +ℤ pos r) ≡ (pos u *ℤ z) → (r ≡ 0) × (q ≡ z)
exact-quotient u r q z proper is = by_lt_z q z
    (λ less.
    let steps = times-le-times u (q +ℤ pos 1) z (omega (arith, ints)) in
    let parts = times-plus u q (pos 1) in
    absurd (omega (arith, ints)))
    (λ more. by_lt_z z q
    (λ less.
    let steps = times-le-times u (z +ℤ pos 1) q (omega (arith, ints)) in
    let parts = times-plus u z (pos 1) in
    absurd (omega (arith, ints)))
    (λ fine.
    let same : q ≡ z = omega (arith, ints) in
    let products = ap (λ y. pos u *ℤ y) same in
    (omega (arith, ints), same)))

no-rest : (x y : ℤ) (n : ℕ) → (x +ℤ pos n) ≡ y → n ≡ 0 → y ≡ x
no-rest x y n is none = omega (arith, ints)

abs-zero : (z : ℤ) → unsigned_abs z ≡ 0 → z ≡ pos 0
abs-zero z none = omega (arith, ints)

same-dvd : (x y m n : ℕ) → x ≡ y → m ≡ n → x ∣ m → y ∣ n
same-dvd x y m n left right divides = subst (λ k. y ∣ k) right (subst (λ k. k ∣ m) left divides)

-- d times a fraction is the whole number z
record IsWhole (a : Fraction) (d : ℕ) (z : ℤ) : Type 0 where
  pub is : (pos d *ℤ a.over) ≡ (pos a.under *ℤ z)

module _ (a : Fraction) (some : 0 < a.under) where
  whole-tested : (d : ℕ) → is_whole_by a d ≡ true → IsWhole a d (int_div_euclid (pos d *ℤ a.over) (pos a.under))
  whole-tested d is =
      let none = (Decides-int_eq (int_rem_euclid (pos d *ℤ a.over) (pos a.under)) (pos 0)).0 is in
      let parts = div_euclid-rem (pos d *ℤ a.over) a.under some in
      record {
        is = no-rest (pos a.under *ℤ int_div_euclid (pos d *ℤ a.over) (pos a.under)) (pos d *ℤ a.over)
            (unsigned_abs (int_rem_euclid (pos d *ℤ a.over) (pos a.under))) parts.0 (ap unsigned_abs none);
      }

  tested-whole : (d : ℕ) (z : ℤ) → IsWhole a d z → is_whole_by a d ≡ true
  tested-whole d z whole =
      let parts = div_euclid-rem (pos d *ℤ a.over) a.under some in
      let exact = exact-quotient a.under (unsigned_abs (int_rem_euclid (pos d *ℤ a.over) (pos a.under)))
      (int_div_euclid (pos d *ℤ a.over) (pos a.under)) z parts.1 (parts.0 ∙ whole.is) in
      (Decides-int_eq (int_rem_euclid (pos d *ℤ a.over) (pos a.under)) (pos 0)).1
      (abs-zero (int_rem_euclid (pos d *ℤ a.over) (pos a.under)) exact.0)

  whole-last : IsWhole a a.under a.over
  whole-last = record { is = refl }

  -- the search finds the first one
  record IsFirstWhole (d r : ℕ) : Type 0 where
    pub from : d ≤ r
    pub whole : is_whole_by a r ≡ true
    pub first : (e : ℕ) → d ≤ e → e < r → is_whole_by a e ≡ true → ⊥

  first-next : (d n : ℕ) (b : Bool) → is_whole_by a d ≡ b → IsFirstWhole (suc d) (whole_by a (suc d) n)
      → IsFirstWhole d (if b then d else whole_by a (suc d) n)
  first-next d n true is rest = record { from = omega arith; whole = is; first = λ e from before whole. absurd (omega arith) }
  first-next d n false is rest = record {
    from = omega (arith, rest.from);
    whole = rest.whole;
    first = λ e from before whole. elim (cases_lt d e) [
      | inl later ↦ rest.first e (omega arith) before whole
      | inr here ↦
          (let same : e ≡ d = omega arith in
          false≢true (sym is ∙ ap (is_whole_by a) (sym same) ∙ whole))
    ];
  }

  first-found : (d n : ℕ) → d + n ≡ a.under → IsFirstWhole d (whole_by a d n)
  first-found d zero end =
      let same : d ≡ a.under = omega arith in
      record {
        from = omega arith;
        whole = ap (is_whole_by a) same ∙ tested-whole a.under a.over whole-last;
        first = λ e from before whole. absurd (omega arith);
      }
  first-found d (suc n) end = first-next d n (is_whole_by a d) refl (first-found (suc d) n (omega arith))

  pub IsLowest-lowest : IsLowest a (lowest a)
  unfolding lowest
  IsLowest-lowest =
      let found = first-found 1 (a.under - 1) (omega arith) in
      let whole = whole-tested (whole_by a 1 (a.under - 1)) found.whole in
      record {
        some = omega (arith, found.from);
        same = record { crosswise = whole.is };
        least = λ c more same. elim (cases_lt c.under (whole_by a 1 (a.under - 1))) [
          | inl before ↦ absurd (found.first c.under (omega arith) before (tested-whole c.under c.over (record { is = same.crosswise })))
          | inr fine ↦ fine
        ];
      }

  -- there is no other
  pub IsLowest-unique : (x y : Fraction) → IsLowest a x → IsLowest a y → x ≡ y
  IsLowest-unique x y first second =
      let up = first.least y second.some second.same in
      let down = second.least x first.some first.same in
      let under : x.under ≡ y.under = omega arith in
      let at_x = first.same.crosswise in
      let at_y = second.same.crosswise in
      let left = ap (λ n. pos n *ℤ a.over) under in
      let over : x.over ≡ y.over = times-same a.under x.over y.over some (omega (arith, ints)) in
      ap₂ (λ (o : ℤ) (u : ℕ). record { over = o; under = u }) over under

-- so two fractions of one number are the same one in lowest terms
pub lowest-same : (a b : Fraction) → 0 < a.under → 0 < b.under → IsSame a b → lowest a ≡ lowest b
lowest-same a b some other same =
    let at_b = IsLowest-lowest b other in
    IsLowest-unique a some (lowest a) (lowest b) (IsLowest-lowest a some) (record {
      some = at_b.some;
      same = IsSame-trans a b (lowest b) other same at_b.same;
      least = λ c more is. at_b.least c more (IsSame-trans b a c some (IsSame-sym a b same) is);
    })

-- a remainder, n-fold
mod-scaled : (x y n : ℕ) → 0 < y → 0 < n → (x * n) % (y * n) ≡ (x % y) * n
mod-scaled x y n some more =
    let parts : y * (x / y) + x % y ≡ x = omega arith in
    let all : (y * (x / y) + x % y) * n ≡ x * n = ap (λ k. k * n) parts in
    let whole : x * n ≡ x / y * (y * n) + x % y * n = omega arith in
    let rest : n * (x % y + 1) ≤ n * y = mul-le-mul_left n (omega arith) in
    ap (λ k. k % (y * n)) whole ∙ mod-mul-add (x / y) (y * n) (x % y * n) (omega arith)

pub IsGcd-scaled : (x y n g : ℕ) → 0 < y → 0 < n → IsGcd (y * n) (x % y * n) g → IsGcd (x * n) (y * n) g
IsGcd-scaled x y n g some more is =
    IsGcd-from_mod (x * n) (y * n) g (subst (λ k. IsGcd (y * n) k g) (sym (mod-scaled x y n some more)) is)

-- what divides is a factor
factor : (g n : ℕ) → 0 < g → g ∣ n → g * (n / g) ≡ n
factor g n some divides = let none = mod-eq-zero_of_dvd g divides in omega arith

-- what the code makes of a fraction: w and r are its quotient and rest by the count, g the greatest common divisor of the count and r,
-- q and s quotient and rest of the sum by g
module _ (a : Fraction) (w q : ℤ) (r s g : ℕ) (some : 0 < a.under) (first : a.over ≡ ((pos a.under *ℤ w) +ℤ pos r)) (more : 0 < g)
    (common : (n : ℕ) → 0 < n → IsGcd (a.under * n) (r * n) (g * n)) (second : a.over ≡ ((pos g *ℤ q) +ℤ pos s)) (proper : s < g) where
  d : ℕ
  d = a.under / g

  parts-under : g * d ≡ a.under
  unfolding d
  parts-under =
      let at = common 1 (omega arith) in
      let divides = same-dvd (g * 1) g (a.under * 1) a.under (omega arith) (omega arith) at.0 in
      factor g a.under more divides

  parts-rest : g * (r / g) ≡ r
  parts-rest =
      let at = common 1 (omega arith) in
      let divides = same-dvd (g * 1) g (r * 1) r (omega arith) (omega arith) at.1 in
      factor g r more divides

  parts-over : a.over ≡ (pos g *ℤ q)
  parts-over =
      let under = parts-under in
      let rest = parts-rest in
      let z = (pos d *ℤ w) +ℤ pos (r / g) in
      let all = times-plus g (pos d *ℤ w) (pos (r / g)) in
      let turned = product-times g d w in
      let scaled = ap (λ n. pos n *ℤ w) under in
      let same : ((pos a.under *ℤ w) +ℤ pos r) ≡ (pos g *ℤ z) = omega (arith, ints) in
      let exact = exact-quotient g s q z proper (sym second ∙ first ∙ same) in
      no-rest (pos g *ℤ q) a.over s (sym second) exact.0

  factor-least : (c : Fraction) → 0 < c.under → IsSame a c → d ≤ c.under
  factor-least c there same =
      let is = same.crosswise in
      let over = ap (λ z. pos c.under *ℤ z) first in
      let parts = times-plus c.under (pos a.under *ℤ w) (pos r) in
      let turned = products-turned c.under a.under w in
      let less = times-minus a.under c.over (pos c.under *ℤ w) in
      let z = c.over -ℤ (pos c.under *ℤ w) in
      let whole : (pos a.under *ℤ z) ≡ pos (r * c.under) = omega (arith, ints) in
      let multiple : r * c.under ≡ a.under * unsigned_abs z = sym (ap unsigned_abs whole) ∙ unsigned_abs-mul (pos a.under) z in
      let one = subst (λ n. a.under ∣ n) (sym multiple) (dvd-mul_right a.under (unsigned_abs z)) in
      let both = (common c.under there).2 a.under (dvd-mul_right a.under c.under) one in
      let under = parts-under in
      let both = same-dvd a.under (d * g) (g * c.under) (c.under * g) (omega arith) (omega arith) both in
      le_of_dvd there (dvd_of_mul-dvd-mul_right d more both)

  pub computed-lowest : record { over = q; under = a.under / g } ≡ lowest a
  unfolding d
  computed-lowest =
      let under = parts-under in
      let over = parts-over in
      let count = ap (λ n. pos n *ℤ q) under in
      let parts = product-turned g d q in
      let sum = ap (λ z. pos d *ℤ z) over in
      let straight = product-times g d q in
      let turned = products-turned g d q in
      let there : 0 < d = elim (cases_lt 0 d) [
        | inl fine ↦ fine
        | inr none ↦ (let no : d ≡ 0 = omega arith in let product = ap (λ n. g * n) no in absurd (omega arith))
      ] in
      IsLowest-unique a some (record { over = q; under = d }) (lowest a) (record {
        some = there;
        same = record { crosswise = omega (arith, ints) };
        least = factor-least;
      }) (IsLowest-lowest a some)

-- as the code holds it
pub held-over : (q : ℤ) (u : ℕ) (a : Fraction) → FitsSigned w128 q → so_many (λ n. q) u ≡ a → so_many (λ n. held q) u ≡ a
held-over q u a fits same = subst (λ (o : ℤ). so_many (λ n. o) u ≡ a) (sym (to_z-of_z w128 q fits)) same
