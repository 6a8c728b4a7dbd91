-- Fractions as numbers: how two compare, and where the mean of some values goes as further ones come, each the same.
use Rattle.std.specs.Prelude.{◌≡◌, ◌⊎◌, ℕ, ◌+◌, ◌*◌, ◌<◌, ◌≤◌, Bool, true, false, nat_le, ℤ, pos, ◌+ℤ◌, ◌-ℤ◌, ◌*ℤ◌, ◌≤ℤ◌, ◌<ℤ◌, int_le, int_lt}
use Rattle.std.proofs.Common.{ap, arith, inl, inr, sym, ◌∙◌}
use Rattle.std.proofs.lemmas.Bool.{cases_lt}
use Rattle.std.proofs.lemmas.Bool.Decides.{nat_tests}
use Rattle.std.proofs.lemmas.Int.{ints, by_lt_z}
use Rattle.std.proofs.Math.Nat.{mul-le-mul_left}
use Rattle.ss_summary.proofs.Bounds.{times-le-times}
use Rattle.ss_bounds.specs.declared.fraction.Fraction.{Fraction}
use Rattle.ss_bounds.specs.Fractions.{at_most, at_least, IsAtMost, IsSame}
use Rattle.ss_bounds.proofs.Numbers.{plus-times, product-times, times-minus, times-plus}
use Rattle.ss_bounds.proofs.GuessLemmas.{products-turned, product-turned}

-- ---- the lemma over plain integers: u values have the sum P, and d further ones are t each

-- (P + d * t) / (u + d) is above P / u by as much as t is, d-fold
pub steps-crosswise : (u d : ℕ) (P t : ℤ) → ((pos (u + d) *ℤ P) -ℤ (pos u *ℤ (P +ℤ (pos d *ℤ t)))) ≡ (pos d *ℤ (P -ℤ (pos u *ℤ t)))
steps-crosswise u d P t =
    let more = plus-times u d P in
    let all = times-plus u P (pos d *ℤ t) in
    let turned = products-turned u d t in
    let lead = times-minus d P (pos u *ℤ t) in
    omega (arith, ints)

-- by how much P / u is above t stays the same, as a product
pub steps-lead : (u d : ℕ) (P t : ℤ) → ((P +ℤ (pos d *ℤ t)) -ℤ (pos (u + d) *ℤ t)) ≡ (P -ℤ (pos u *ℤ t))
steps-lead u d P t = let more = plus-times u d t in omega (arith, ints)

-- so the means of u, u + d and u + d + e values rise all the way, or they fall
pub record Rises (u d e : ℕ) (P t : ℤ) : Type 0 where
  pub first : (pos (u + d) *ℤ P) ≤ℤ (pos u *ℤ (P +ℤ (pos d *ℤ t)))
  pub second : (pos (u + d + e) *ℤ (P +ℤ (pos d *ℤ t))) ≤ℤ (pos (u + d) *ℤ ((P +ℤ (pos d *ℤ t)) +ℤ (pos e *ℤ t)))

pub record Falls (u d e : ℕ) (P t : ℤ) : Type 0 where
  pub first : (pos u *ℤ (P +ℤ (pos d *ℤ t))) ≤ℤ (pos (u + d) *ℤ P)
  pub second : (pos (u + d) *ℤ ((P +ℤ (pos d *ℤ t)) +ℤ (pos e *ℤ t))) ≤ℤ (pos (u + d + e) *ℤ (P +ℤ (pos d *ℤ t)))

pub rises-or-falls : (u d e : ℕ) (P t : ℤ) → Rises u d e P t ⊎ Falls u d e P t
rises-or-falls u d e P t =
    let lead = steps-lead u d P t in
    let near = steps-crosswise u d P t in
    let far = steps-crosswise (u + d) e (P +ℤ (pos d *ℤ t)) t in
    by_lt_z (P -ℤ (pos u *ℤ t)) (pos 0)
    (λ down.
    let one = times-le-times d (P -ℤ (pos u *ℤ t)) (pos 0) (omega (arith, ints)) in
    let two = times-le-times e ((P +ℤ (pos d *ℤ t)) -ℤ (pos (u + d) *ℤ t)) (pos 0) (omega (arith, ints)) in
    inl (record { first = omega (arith, ints); second = omega (arith, ints) }))
    (λ up.
    let one = times-le-times d (pos 0) (P -ℤ (pos u *ℤ t)) (omega (arith, ints)) in
    let two = times-le-times e (pos 0) ((P +ℤ (pos d *ℤ t)) -ℤ (pos (u + d) *ℤ t)) (omega (arith, ints)) in
    inr (record { first = omega (arith, ints); second = omega (arith, ints) }))

-- ---- orders of fractions

-- what is so many times less is less
pub times-cancel : (n : ℕ) (a b : ℤ) → 0 < n → (pos n *ℤ a) ≤ℤ (pos n *ℤ b) → a ≤ℤ b
times-cancel n a b some less = by_lt_z b a
    (λ more.
    let steps = times-le-times n (b +ℤ pos 1) a (omega (arith, ints)) in
    let parts = times-plus n b (pos 1) in
    absurd (omega (arith, ints)))
    (λ fine. fine)

pub times-same : (n : ℕ) (a b : ℤ) → 0 < n → (pos n *ℤ a) ≡ (pos n *ℤ b) → a ≡ b
times-same n a b some same =
    let one = times-cancel n a b some (omega (arith, ints)) in
    let two = times-cancel n b a some (omega (arith, ints)) in
    omega (arith, ints)

pub IsAtMost-refl : (a : Fraction) → IsAtMost a a
IsAtMost-refl a = record { crosswise = omega (arith, ints) }

pub IsAtMost-trans : (a b c : Fraction) → 0 < b.under → IsAtMost a b → IsAtMost b c → IsAtMost a c
IsAtMost-trans a b c some first second =
    let low = times-le-times c.under (pos b.under *ℤ a.over) (pos a.under *ℤ b.over) first.crosswise in
    let high = times-le-times a.under (pos c.under *ℤ b.over) (pos b.under *ℤ c.over) second.crosswise in
    let left = products-turned c.under b.under a.over in
    let middle = products-turned c.under a.under b.over in
    let right = products-turned a.under b.under c.over in
    record { crosswise = times-cancel b.under (pos c.under *ℤ a.over) (pos a.under *ℤ c.over) some (omega (arith, ints)) }

pub IsSame-both : (a b : Fraction) → IsAtMost a b → IsAtMost b a → IsSame a b
IsSame-both a b first second =
    let low = first.crosswise in
    let high = second.crosswise in
    record { crosswise = omega (arith, ints) }

pub IsAtMost-IsSame : (a b : Fraction) → IsSame a b → IsAtMost a b
IsAtMost-IsSame a b same = let is = same.crosswise in record { crosswise = omega (arith, ints) }

pub IsSame-sym : (a b : Fraction) → IsSame a b → IsSame b a
IsSame-sym a b same = let is = same.crosswise in record { crosswise = omega (arith, ints) }

pub IsSame-trans : (a b c : Fraction) → 0 < b.under → IsSame a b → IsSame b c → IsSame a c
IsSame-trans a b c some first second =
    IsSame-both a c
    (IsAtMost-trans a b c some (IsAtMost-IsSame a b first) (IsAtMost-IsSame b c second))
    (IsAtMost-trans c b a some (IsAtMost-IsSame c b (IsSame-sym b c second)) (IsAtMost-IsSame b a (IsSame-sym a b first)))

-- v, and d further values of t each
abbrev pub further : Fraction → ℕ → ℤ → Fraction
further v d t = record { over = v.over +ℤ (pos d *ℤ t); under = v.under + d }

-- an order of fractions, by a test: the better one of two comes first
pub record IsOrder (test : Fraction → Fraction → Bool) (Better : Fraction → Fraction → Type 0) : Type 0 where
  pub itself : (a : Fraction) → Better a a
  pub same : (a b : Fraction) → Better a b → Better b a → IsSame a b
  pub trans : (a b c : Fraction) → 0 < b.under → Better a b → Better b c → Better a c
  pub yes : (a b : Fraction) → test a b ≡ true → Better a b
  pub no : (a b : Fraction) → test a b ≡ false → Better b a
  -- of v, v with d values and v with e more, the middle one isn't the best
  pub ends : (v : Fraction) (d e : ℕ) (t : ℤ) → Better v (further v d t) ⊎ Better (further (further v d t) e t) (further v d t)

pub IsOrder-at_most : IsOrder at_most IsAtMost
IsOrder-at_most = record {
  itself = IsAtMost-refl;
  same = IsSame-both;
  trans = IsAtMost-trans;
  yes = λ a b is. record { crosswise = omega (arith, ints) };
  no = λ a b is. record { crosswise = omega (arith, ints) };
  ends = λ v d e t. elim (rises-or-falls v.under d e v.over t) [
    | inl rises ↦ inl (record { crosswise = rises.first })
    | inr falls ↦ inr (record { crosswise = falls.second })
  ];
}

abbrev pub IsAtLeast : Fraction → Fraction → Type 0
IsAtLeast a b = IsAtMost b a

pub IsOrder-at_least : IsOrder at_least IsAtLeast
IsOrder-at_least = record {
  itself = IsAtMost-refl;
  same = λ a b first second. IsSame-both a b second first;
  trans = λ a b c some first second. IsAtMost-trans c b a some second first;
  yes = λ a b is. record { crosswise = omega (arith, ints) };
  no = λ a b is. record { crosswise = omega (arith, ints) };
  ends = λ v d e t. elim (rises-or-falls v.under d e v.over t) [
    | inl rises ↦ inr (record { crosswise = rises.second })
    | inr falls ↦ inl (record { crosswise = falls.first })
  ];
}

-- ---- the comparison by whole numbers and rests

module _ (a b : Fraction) (w x : ℤ) (r t : ℕ) (first : a.over ≡ ((pos a.under *ℤ w) +ℤ pos r)) (second : b.over ≡ ((pos b.under *ℤ x) +ℤ pos t))
    (proper : r < a.under) (other_proper : t < b.under) where
  left-parts : (pos b.under *ℤ a.over) ≡ ((pos (a.under * b.under) *ℤ w) +ℤ pos (r * b.under))
  left-parts =
      let all = ap (λ z. pos b.under *ℤ z) first in
      let parts = times-plus b.under (pos a.under *ℤ w) (pos r) in
      let turned = product-turned b.under a.under w in
      omega (arith, ints)

  right-parts : (pos a.under *ℤ b.over) ≡ ((pos (a.under * b.under) *ℤ x) +ℤ pos (t * a.under))
  right-parts =
      let all = ap (λ z. pos a.under *ℤ z) second in
      let parts = times-plus a.under (pos b.under *ℤ x) (pos t) in
      let straight = product-times a.under b.under x in
      omega (arith, ints)

  less-below : w <ℤ x → (pos b.under *ℤ a.over) ≤ℤ (pos a.under *ℤ b.over)
  less-below less =
      let steps = times-le-times (a.under * b.under) (w +ℤ pos 1) x (omega (arith, ints)) in
      let parts = times-plus (a.under * b.under) w (pos 1) in
      let rest : b.under * (r + 1) ≤ b.under * a.under = mul-le-mul_left b.under (omega arith) in
      omega (arith, ints, left-parts, right-parts)

  more-above : x <ℤ w → (pos a.under *ℤ b.over) <ℤ (pos b.under *ℤ a.over)
  more-above more =
      let steps = times-le-times (a.under * b.under) (x +ℤ pos 1) w (omega (arith, ints)) in
      let parts = times-plus (a.under * b.under) x (pos 1) in
      let rest : a.under * (t + 1) ≤ a.under * b.under = mul-le-mul_left a.under (omega arith) in
      omega (arith, ints, left-parts, right-parts)

  le-false : (p q : ℤ) → q <ℤ p → int_le p q ≡ false
  le-false p q more = grind (arith, ints)

  le-true : (p q : ℤ) → p ≤ℤ q → int_le p q ≡ true
  le-true p q less = grind (arith, ints)

  pub compare-wholes : (w ≡ x → ⊥) → int_lt w x ≡ at_most a b
  compare-wholes apart = by_lt_z w x
      (λ less.
      let yes = le-true (pos b.under *ℤ a.over) (pos a.under *ℤ b.over) (less-below less) in
      let is : int_lt w x ≡ true = grind (arith, ints) in
      is ∙ sym yes)
      (λ more. by_lt_z x w
      (λ above.
      let no = le-false (pos b.under *ℤ a.over) (pos a.under *ℤ b.over) (more-above above) in
      let is : int_lt w x ≡ false = grind (arith, ints) in
      is ∙ sym no)
      (λ fine. absurd (apart (omega (arith, ints)))))

  pub compare-rests : w ≡ x → nat_le (r * b.under) (t * a.under) ≡ at_most a b
  compare-rests same =
      let whole = ap (λ z. pos (a.under * b.under) *ℤ z) same in
      elim (cases_lt (t * a.under) (r * b.under)) [
        | inl above ↦
            (let no = le-false (pos b.under *ℤ a.over) (pos a.under *ℤ b.over) (omega (arith, ints, left-parts, right-parts)) in
            let is : nat_le (r * b.under) (t * a.under) ≡ false = grind (arith, nat_tests) in
            is ∙ sym no)
        | inr fine ↦
            (let yes = le-true (pos b.under *ℤ a.over) (pos a.under *ℤ b.over) (omega (arith, ints, left-parts, right-parts)) in
            let is : nat_le (r * b.under) (t * a.under) ≡ true = grind (arith, nat_tests) in
            is ∙ sym yes)
      ]
