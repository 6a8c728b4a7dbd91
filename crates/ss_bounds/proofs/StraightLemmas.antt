-- Where a function is least: over a stretch in which it grows by the same step each time, and over two stretches.
use Rattle.std.specs.Prelude.{◌≡◌, ◌⊎◌, ℕ, zero, suc, ◌+◌, ◌-◌, ◌<◌, ◌≤◌, ℤ, pos, negsuc, ◌+ℤ◌, ◌*ℤ◌, ◌≤ℤ◌, ◌<ℤ◌, int_le, Bool, true, false, if◌then◌else◌}
use Rattle.std.proofs.Common.{arith, inl, inr, refl, sym, ap, ◌∙◌}
use Rattle.std.proofs.lemmas.Bool.{cases_lt}
use Rattle.std.proofs.lemmas.Int.{ints, by_lt_z}
use Rattle.ss_summary.proofs.Bounds.{times-le-times}
use Rattle.ss_bounds.specs.Lines.{IsStraight, IsLastLeast, lower}
use Rattle.ss_bounds.specs.Attained.{IsFirstLeast}

module _ (f : ℕ → ℤ) where
  -- which of two numbers `lower` gives
  lower-cases : (x y : ℕ) (b : Bool) → int_le (f x) (f y) ≡ b
      → (((if b then x else y) ≡ x) × (f x ≤ℤ f y)) ⊎ (((if b then x else y) ≡ y) × (f y <ℤ f x))
  lower-cases x y true is = inl (refl, omega (arith, ints))
  lower-cases x y false is = inr (refl, omega (arith, ints))

  lower-is : (x y : ℕ) → ((lower f x y ≡ x) × (f x ≤ℤ f y)) ⊎ ((lower f x y ≡ y) × (f y <ℤ f x))
  lower-is x y = lower-cases x y (int_le (f x) (f y)) refl

  pub lower-within : (x y n : ℕ) → x ≤ n → y ≤ n → lower f x y ≤ n
  lower-within x y n x_in y_in = elim (lower-is x y) [
    | inl (is, order) ↦ rw is x_in
    | inr (is, order) ↦ rw is y_in
  ]

  -- of two stretches without a gap, the first least of one or of the other
  pub IsFirstLeast-lower : (a b p q x y : ℕ) → p ≤ b → a ≤ q → q ≤ p + 1 → IsFirstLeast f a p x → IsFirstLeast f q b y
      → IsFirstLeast f a b (lower f x y)
  IsFirstLeast-lower a b p q x y p_in q_in beside left right = elim (lower-is x y) [
    | inl (is, at_most) ↦ rw is (record {
      from = left.from;
      to = omega (arith, left.to);
      at_most = λ z from to. elim (cases_lt p z) [
        | inl later ↦ (let rest = right.at_most z (omega arith) to in omega (arith, ints))
        | inr sooner ↦ left.at_most z from sooner
      ];
      first = left.first;
    })
    | inr (is, less) ↦ rw is (record {
      from = omega (arith, right.from);
      to = right.to;
      at_most = λ z from to. elim (cases_lt p z) [
        | inl later ↦ right.at_most z (omega arith) to
        | inr sooner ↦ (let rest = left.at_most z from sooner in omega (arith, ints))
      ];
      first = λ z from before. elim (cases_lt p z) [
        | inl later ↦ right.first z (omega arith) before
        | inr sooner ↦ (let rest = left.at_most z from sooner in omega (arith, ints))
      ];
    })
  ]

  -- and the last least
  pub IsLastLeast-lower : (a b p q x y : ℕ) → p ≤ b → a ≤ q → q ≤ p + 1 → IsLastLeast f a p x → IsLastLeast f q b y
      → IsLastLeast f a b (lower f y x)
  IsLastLeast-lower a b p q x y p_in q_in beside left right = elim (lower-is y x) [
    | inl (is, at_most) ↦ rw is (record {
      from = omega (arith, right.from);
      to = right.to;
      at_most = λ z from to. elim (cases_lt p z) [
        | inl later ↦ right.at_most z (omega arith) to
        | inr sooner ↦ (let rest = left.at_most z from sooner in omega (arith, ints))
      ];
      last = right.last;
    })
    | inr (is, less) ↦ rw is (record {
      from = left.from;
      to = omega (arith, left.to);
      at_most = λ z from to. elim (cases_lt p z) [
        | inl later ↦ (let rest = right.at_most z (omega arith) to in omega (arith, ints))
        | inr sooner ↦ left.at_most z from sooner
      ];
      last = λ z after to. elim (cases_lt p z) [
        | inl later ↦ (let rest = right.at_most z (omega arith) to in omega (arith, ints))
        | inr sooner ↦ left.last z after sooner
      ];
    })
  ]

  module _ (step : ℤ) (a b : ℕ) (straight : IsStraight f step a b) where
    IsStraight-plus : (x d : ℕ) → a ≤ x → x + d ≤ b → f (x + d) ≡ (f x +ℤ (pos d *ℤ step))
    IsStraight-plus x zero from to = let same : x + 0 ≡ x = omega arith in rw same (omega (arith, ints))
    IsStraight-plus x (suc d) from to =
        let rest = IsStraight-plus x d from (omega arith) in
        let next = straight.next (x + d) (omega arith) (omega arith) in
        let same : x + suc d ≡ x + d + 1 = omega arith in
        rw same (omega (arith, ints))

    pub IsStraight-apart : (x y : ℕ) → a ≤ x → x ≤ y → y ≤ b → f y ≡ (f x +ℤ (pos (y - x) *ℤ step))
    IsStraight-apart x y from more to =
        let same : x + (y - x) ≡ y = omega arith in
        ap f (sym same) ∙ IsStraight-plus x (y - x) from (omega arith)

    -- it doesn't fall where its step isn't below zero, and so on
    climbs : pos 0 ≤ℤ step → (x y : ℕ) → a ≤ x → x ≤ y → y ≤ b → f x ≤ℤ f y
    climbs high x y from more to =
        let apart = IsStraight-apart x y from more to in
        let steps = times-le-times (y - x) (pos 0) step high in
        omega (arith, ints)

    climbs_strictly : pos 0 <ℤ step → (x y : ℕ) → a ≤ x → x < y → y ≤ b → f x <ℤ f y
    climbs_strictly high x y from more to =
        let apart = IsStraight-apart x y from (omega arith) to in
        let steps = times-le-times (y - x) (pos 1) step (omega (arith, ints)) in
        omega (arith, ints)

    falls : step ≤ℤ pos 0 → (x y : ℕ) → a ≤ x → x ≤ y → y ≤ b → f y ≤ℤ f x
    falls low x y from more to =
        let apart = IsStraight-apart x y from more to in
        let steps = times-le-times (y - x) step (pos 0) low in
        omega (arith, ints)

    falls_strictly : step <ℤ pos 0 → (x y : ℕ) → a ≤ x → x < y → y ≤ b → f y <ℤ f x
    falls_strictly low x y from more to =
        let apart = IsStraight-apart x y from (omega arith) to in
        let steps = times-le-times (y - x) step (negsuc 0) (omega (arith, ints)) in
        omega (arith, ints)

    -- where one end is lower than the other, it is the least
    least_at_start : f a ≤ℤ f b → (y : ℕ) → a ≤ y → y ≤ b → f a ≤ℤ f y
    least_at_start order y from to = by_lt_z step (pos 0)
        (λ down. elim (cases_lt a y) [
          | inl later ↦ (let less = falls_strictly down a b (omega arith) (omega arith) (omega arith) in absurd (omega (arith, ints)))
          | inr same ↦ (let is : y ≡ a = omega arith in rw is (omega (arith, ints)))
        ])
        (λ up. climbs up a y (omega arith) from to)

    least_at_end : f b ≤ℤ f a → (y : ℕ) → a ≤ y → y ≤ b → f b ≤ℤ f y
    least_at_end order y from to = by_lt_z (pos 0) step
        (λ up. elim (cases_lt y b) [
          | inl sooner ↦ (let more = climbs_strictly up a b (omega arith) (omega arith) (omega arith) in absurd (omega (arith, ints)))
          | inr same ↦ (let is : y ≡ b = omega arith in rw is (omega (arith, ints)))
        ])
        (λ down. falls down y b from to (omega arith))

    more_before_end : f b <ℤ f a → (y : ℕ) → a ≤ y → y < b → f b <ℤ f y
    more_before_end order y from before = by_lt_z step (pos 0)
        (λ down. falls_strictly down y b from before (omega arith))
        (λ up. let more = climbs up a b (omega arith) (omega arith) (omega arith) in absurd (omega (arith, ints)))

    more_after_start : f a <ℤ f b → (y : ℕ) → a < y → y ≤ b → f a <ℤ f y
    more_after_start order y after to = by_lt_z (pos 0) step
        (λ up. climbs_strictly up a y (omega arith) after to)
        (λ down. let less = falls down a b (omega arith) (omega arith) (omega arith) in absurd (omega (arith, ints)))

    -- so it is first least at one end or the other, and last least
    pub IsFirstLeast-straight : a ≤ b → IsFirstLeast f a b (lower f a b)
    IsFirstLeast-straight order = elim (lower-is a b) [
      | inl (is, at_most) ↦ rw is (record {
        from = omega arith;
        to = order;
        at_most = least_at_start at_most;
        first = λ y from before. absurd (omega arith);
      })
      | inr (is, less) ↦ rw is (record {
        from = order;
        to = omega arith;
        at_most = least_at_end (omega (arith, ints));
        first = more_before_end less;
      })
    ]

    pub IsLastLeast-straight : a ≤ b → IsLastLeast f a b (lower f b a)
    IsLastLeast-straight order = elim (lower-is b a) [
      | inl (is, at_most) ↦ rw is (record {
        from = order;
        to = omega arith;
        at_most = least_at_end at_most;
        last = λ y after to. absurd (omega arith);
      })
      | inr (is, less) ↦ rw is (record {
        from = omega arith;
        to = order;
        at_most = least_at_start (omega (arith, ints));
        last = more_after_start less;
      })
    ]
