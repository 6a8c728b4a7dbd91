-- The first number of values of a split window with which the best mean is attained: it is found at a corner.
use Rattle.std.specs.Prelude.{◌≡◌, ℕ, ◌+◌, ◌-◌, ◌<◌, ◌≤◌, min, max, Bool, ℤ, pos, ◌-ℤ◌, ◌*ℤ◌}
use Rattle.std.specs.Prelude.{List, ◌∷◌, Option, None, Some}
use Rattle.std.proofs.Common.{ap, arith, inl, inr, refl, subst, sym, ◌∙◌}
use Rattle.std.proofs.lemmas.Bool.{cases_lt}
use Rattle.std.proofs.lemmas.Int.{ints}
use Rattle.ss_summary.proofs.Bounds.{times-le-times}
use Rattle.ss_bounds.specs.declared.corners.Corners.{Corners}
use Rattle.ss_bounds.specs.declared.fraction.Fraction.{Fraction}
use Rattle.ss_bounds.specs.Corners.{AreCorners, AreSame}
use Rattle.ss_bounds.specs.Fractions.{IsAtMost, IsSame}
use Rattle.ss_bounds.specs.Lines.{IsStraight}
use Rattle.ss_bounds.specs.Means.{AddsUpTo, best_mean, so_many, with_values}
use Rattle.ss_bounds.specs.Split.{SplitFigures, least_count, greatest_count}
use Rattle.ss_bounds.proofs.BestLemmas.{AreOrdered, IsBest, IsBestOne, IsNone, IsBest-best_mean, fraction-is, with_values-swapped}
use Rattle.ss_bounds.proofs.CornerLemmas.{AddsUpTo-shift, AtCorners, IsShift}
use Rattle.ss_bounds.proofs.FractionLemmas.{IsAtLeast, IsAtMost-IsSame, IsOrder, IsSame-sym, further, steps-crosswise, steps-lead, times-cancel}
use Rattle.ss_bounds.proofs.StraightLemmas.{IsStraight-apart}

-- ---- over a straight stretch

-- the same number is as good; and of v, v with d values and v with e more, where the middle one is as good as the last, the first is as
-- good as the middle one
pub record IsLevel (Better : Fraction → Fraction → Type 0) : Type 0 where
  pub alike : (a b : Fraction) → IsSame a b → Better a b
  pub start : (v : Fraction) (d e : ℕ) (t : ℤ) → 0 < e → Better (further v d t) (further (further v d t) e t) → Better v (further v d t)

pub IsLevel-at_most : IsLevel IsAtMost
IsLevel-at_most = record {
  alike = IsAtMost-IsSame;
  start = λ v d e t some good.
      let lead = steps-lead v.under d v.over t in
      let near = steps-crosswise v.under d v.over t in
      let far = steps-crosswise (v.under + d) e (further v d t).over t in
      let down = times-cancel e ((further v d t).over -ℤ (pos (v.under + d) *ℤ t)) (pos 0) some (omega (arith, ints, good.crosswise)) in
      let steps = times-le-times d (v.over -ℤ (pos v.under *ℤ t)) (pos 0) (omega (arith, ints)) in
      record { crosswise = omega (arith, ints) };
}

pub IsLevel-at_least : IsLevel IsAtLeast
IsLevel-at_least = record {
  alike = λ a b same. IsAtMost-IsSame b a (IsSame-sym a b same);
  start = λ v d e t some good.
      let lead = steps-lead v.under d v.over t in
      let near = steps-crosswise v.under d v.over t in
      let far = steps-crosswise (v.under + d) e (further v d t).over t in
      let up = times-cancel e (pos 0) ((further v d t).over -ℤ (pos (v.under + d) *ℤ t)) some (omega (arith, ints, good.crosswise)) in
      let steps = times-le-times d (pos 0) (v.over -ℤ (pos v.under *ℤ t)) (omega (arith, ints)) in
      record { crosswise = omega (arith, ints) };
}

module _ {test : Fraction → Fraction → Bool} {Better : Fraction → Fraction → Type 0} (order : IsOrder test Better) (level : IsLevel Better) where
  stretch-start : (f : ℕ → ℤ) (t : ℤ) (l h x : ℕ) → IsStraight f t l h → l ≤ x → x < h → (w : Fraction)
      → Better (with_values w (so_many f x)) (with_values w (so_many f h)) → Better (with_values w (so_many f l)) (with_values w (so_many f x))
  stretch-start f t l h x straight from before w good =
      let at_x = IsStraight-apart f t l h straight l x (omega arith) from (omega arith) in
      let at_h = IsStraight-apart f t l h straight x h from (omega arith) (omega arith) in
      let here : further (with_values w (so_many f l)) (x - l) t ≡ with_values w (so_many f x) = fraction-is _ _ (omega (arith, ints)) (omega arith) in
      let there : further (further (with_values w (so_many f l)) (x - l) t) (h - x) t ≡ with_values w (so_many f h) =
      fraction-is _ _ (omega (arith, ints)) (omega arith) in
      let last = subst (λ v. Better (with_values w (so_many f x)) v) (sym there) good in
      let both = subst (λ v. Better v (further (further (with_values w (so_many f l)) (x - l) t) (h - x) t)) (sym here) last in
      subst (λ v. Better (with_values w (so_many f l)) v) here (level.start (with_values w (so_many f l)) (x - l) (h - x) t (omega arith) both)

  -- ---- a corner before a number of values that is as good as all

  -- some values are no more than x, from a on, and as good beside w
  pub record IsBefore (f : ℕ → ℤ) (a : ℕ) (w : Fraction) (x : ℕ) (v : Fraction) : Type 0 where
    pub is : v ≡ so_many f v.under
    pub from : a ≤ v.under
    pub early : v.under ≤ x
    pub some : 0 < w.under + v.under
    pub good : Better (with_values w v) (with_values w (so_many f x))

  module _ (f : ℕ → ℤ) (a b : ℕ) (c : Corners) (is : AreCorners f a b c) (w : Fraction) (x : ℕ) (from : a ≤ x) (to : x ≤ b) (more : 0 < w.under + x)
      (best : (y : ℕ) → a ≤ y → y ≤ b → 0 < w.under + y → Better (with_values w (so_many f x)) (with_values w (so_many f y))) where
    before-at : (v : Fraction) (y : ℕ) → v ≡ so_many f y → a ≤ y → y ≤ x → 0 < w.under + y
        → Better (with_values w (so_many f y)) (with_values w (so_many f x)) → IsBefore f a w x v
    before-at v y same start early some good =
        subst (IsBefore f a w x) (sym same) (record { is = refl; from = start; early = early; some = some; good = good })

    before-some : w.under + a ≡ 0 → 1 ≤ x → Better (with_values w (so_many f 1)) (with_values w (so_many f x)) → IsBefore f a w x c.some
    before-some none early good =
        let one : 1 ≡ min (max a 1) b = omega arith in
        before-at c.some (min (max a 1) b) is.some (omega arith) (omega arith) (omega arith)
        (subst (λ y. Better (with_values w (so_many f y)) (with_values w (so_many f x))) one good)

    -- x itself is a corner
    before-itself : (v : Fraction) → v ≡ so_many f v.under → v.under ≡ x → IsBefore f a w x v
    before-itself v corner same =
        before-at v x (corner ∙ ap (so_many f) same) from (omega arith) more (order.itself (with_values w (so_many f x)))

    -- x lies before the end h of a straight stretch from l on
    before-early : x < c.before.under → AtCorners (IsBefore f a w x) c
    before-early early =
        let straight = is.bends.first in
        let h = c.before.under in
        let bends = is.bends in
        let within : h ≤ b = omega (arith, bends.order, bends.to) in
        let good = best h (omega arith) within (omega arith) in
        elim (cases_lt 0 (w.under + a)) [
          | inl some ↦ inl (inl (inl (before-at c.fewest a is.fewest (omega arith) from some (stretch-start f straight.0 a h x straight.1 from early w good))))
          | inr none ↦ inl (inl (inr (before-some (omega arith) (omega arith)
              (stretch-start f straight.0 1 h x (record { next = λ y start stop. straight.1.next y (omega arith) stop }) (omega arith) early w good))))
        ]

    before-late : c.after.under ≤ x → x < b → AtCorners (IsBefore f a w x) c
    before-late late early =
        let straight = is.bends.second in
        let l = c.after.under in
        let bends = is.bends in
        let start : a ≤ l = omega (arith, bends.from, bends.order) in
        let good = best b (omega arith) (omega arith) (omega arith) in
        elim (cases_lt 0 (w.under + l)) [
          | inl some ↦ inl (inr (inr (before-at c.after l is.after start late some (stretch-start f straight.0 l b x straight.1 late early w good))))
          | inr none ↦ inl (inl (inr (before-some (omega arith) (omega arith)
              (stretch-start f straight.0 1 b x (record { next = λ y from to. straight.1.next y (omega arith) to }) (omega arith) early w good))))
        ]

    pub corner-before : AtCorners (IsBefore f a w x) c
    corner-before = elim (cases_lt x c.before.under) [
      | inl early ↦ before-early early
      | inr late ↦ elim (cases_lt c.before.under x) [
        | inl after ↦ elim (cases_lt x b) [
          | inl more_to ↦ before-late (let beside = is.bends.beside in omega arith) more_to
          | inr last ↦ inr (before-itself c.most (is.most ∙ ap (so_many f) (sym (ap (λ (v : Fraction). v.under) is.most)))
              (ap (λ (v : Fraction). v.under) is.most ∙ omega arith))
        ]
        | inr at ↦ inl (inr (inl (before-itself c.before is.before (omega arith))))
      ]
    ]

  -- ---- the best mean of all, with some values of the first window

  module _ (sum : SplitFigures → ℕ → ℤ) (known : Fraction) (s : SplitFigures) (splits : List SplitFigures) (ordered : AreOrdered (s ∷ splits)) where
    abbrev pub of_all : Option Fraction
    of_all = best_mean test sum known (s ∷ splits)

    abbrev pub best_with : Fraction → Option Fraction
    best_with v = best_mean test sum (with_values known v) splits

    pub all-best : IsBest order (AddsUpTo sum known (s ∷ splits)) of_all
    all-best = IsBest-best_mean order sum known (s ∷ splits) ordered

    pub with-best : (v : Fraction) → IsBest order (AddsUpTo sum (with_values known v) splits) (best_with v)
    with-best v = IsBest-best_mean order sum (with_values known v) splits ordered.1

    -- what is reached with so many values of the window is reached
    reached-with : (v u : Fraction) → v ≡ so_many (sum s) v.under → least_count s ≤ v.under → v.under ≤ greatest_count s
        → AddsUpTo sum (with_values known v) splits u → AddsUpTo sum known (s ∷ splits) u
    reached-with v u same from to reached = (v.under, from, to, subst (λ z. AddsUpTo sum (with_values known z) splits u) same reached)

    -- where what is reached with them is as good as the best one, their best one is the best one
    same-with : (v m u : Fraction) → v ≡ so_many (sum s) v.under → least_count s ≤ v.under → v.under ≤ greatest_count s
        → IsBestOne order (AddsUpTo sum known (s ∷ splits)) m → AddsUpTo sum (with_values known v) splits u → 0 < u.under → Better u m
        → (r : Option Fraction) → IsBest order (AddsUpTo sum (with_values known v) splits) r → AreSame r (Some m)
    same-with v m u same from to best reached some good None none = absurd (let zero_under = none.none u reached in omega arith)
    same-with v m u same from to best reached some good (Some r) one = (
      one.some,
      best.some,
      order.same r m (order.trans r u m some (one.best u reached some) good)
          (best.best r (reached-with v r same from to one.reached) one.some),
    )

    -- where no value lies there, nor does with them
    none-with : (v : Fraction) → v ≡ so_many (sum s) v.under → least_count s ≤ v.under → v.under ≤ greatest_count s
        → IsNone order (AddsUpTo sum known (s ∷ splits))
        → (r : Option Fraction) → IsBest order (AddsUpTo sum (with_values known v) splits) r → AreSame r None
    none-with v same from to none None is = tt
    none-with v same from to none (Some r) is =
        absurd (let zero_under = none.none r (reached-with v r same from to is.reached) in omega (arith, is.some))

    -- some number of values attains it
    pub record IsAttained (x : ℕ) : Type 0 where
      pub from : least_count s ≤ x
      pub to : x ≤ greatest_count s
      pub same : AreSame (best_with (so_many (sum s) x)) of_all

    attained-at : (m : Option Fraction) → m ≡ of_all → IsBest order (AddsUpTo sum known (s ∷ splits)) m → (x : ℕ) × IsAttained x
    attained-at None is best =
        let v = so_many (sum s) (least_count s) in (
          least_count s,
          record {
            from = omega arith;
            to = ordered.0;
            same = subst (AreSame (best_with v)) is (none-with v refl (omega arith) ordered.0 best (best_with v) (with-best v));
          },
        )
    attained-at (Some m) is best =
        let at = best.reached in
        let v = so_many (sum s) at.0 in (
          at.0,
          record {
            from = at.1;
            to = at.2;
            same = subst (AreSame (best_with v)) is
                (same-with v m m refl at.1 at.2 best at.3 best.some (order.itself m) (best_with v) (with-best v));
          },
        )

    pub some-attained : (x : ℕ) × IsAttained x
    some-attained = attained-at of_all refl all-best

    -- and a corner with no more values does
    module _ (c : Corners) (is : AreCorners (sum s) (least_count s) (greatest_count s) c) where
      module _ (x : ℕ) (from : least_count s ≤ x) (to : x ≤ greatest_count s) where
        -- beside the same values of the other windows
        module _ (m r : Fraction) (shift : IsShift sum (with_values known (so_many (sum s) x)) splits r) (some : 0 < r.under)
            (best : IsBestOne order (AddsUpTo sum known (s ∷ splits)) m) (good : Better r m) where
          abbrev beside : Fraction
          beside = with_values known shift.rest

          moved : r ≡ with_values beside (so_many (sum s) x)
          moved = shift.is ∙ with_values-swapped known (so_many (sum s) x) shift.rest

          best-beside : (y : ℕ) → least_count s ≤ y → y ≤ greatest_count s → 0 < beside.under + y
              → Better (with_values beside (so_many (sum s) x)) (with_values beside (so_many (sum s) y))
          best-beside y start end more =
              let u = with_values (with_values known (so_many (sum s) y)) shift.rest in
              let there : AddsUpTo sum known (s ∷ splits) u = (y, start, end, shift.reaches (with_values known (so_many (sum s) y))) in
              let first = subst (λ z. Better z m) moved good in
              let last = best.best u there (omega arith) in
              subst (λ z. Better (with_values beside (so_many (sum s) x)) z) (with_values-swapped known (so_many (sum s) y) shift.rest)
              (order.trans (with_values beside (so_many (sum s) x)) m u best.some first last)

          sooner-at : (v : Fraction) → IsBefore (sum s) (least_count s) beside x v
              → AreSame (best_with v) (Some m)
          sooner-at v before =
              let u = with_values (with_values known v) shift.rest in
              let swapped = with_values-swapped known v shift.rest in
              let there = subst (λ z. Better z (with_values beside (so_many (sum s) x))) (sym swapped) before.good in
              let as_r = subst (λ z. Better u z) (sym moved) there in
              same-with v m u before.is before.from (omega (arith, before.early)) best (shift.reaches (with_values known v)) (omega (arith, before.some))
              (order.trans u r m some as_r good) (best_with v) (with-best v)

          corner-sooner : AtCorners (λ v. (v.under ≤ x) × AreSame (best_with v) (Some m)) c
          corner-sooner =
              let more : 0 < beside.under + x = omega (arith, ap (λ (z : Fraction). z.under) moved) in
              elim (corner-before (sum s) (least_count s) (greatest_count s) c is beside x from to more best-beside) [
                | inl (inl (inl at)) ↦ inl (inl (inl (at.early, sooner-at c.fewest at)))
                | inl (inl (inr at)) ↦ inl (inl (inr (at.early, sooner-at c.some at)))
                | inl (inr (inl at)) ↦ inl (inr (inl (at.early, sooner-at c.before at)))
                | inl (inr (inr at)) ↦ inl (inr (inr (at.early, sooner-at c.after at)))
                | inr at ↦ inr (at.early, sooner-at c.most at)
              ]

        sooner-by : (m r : Option Fraction) → IsBest order (AddsUpTo sum known (s ∷ splits)) m
            → IsBest order (AddsUpTo sum (with_values known (so_many (sum s) x)) splits) r → AreSame r m
            → AtCorners (λ v. (v.under ≤ x) × AreSame (best_with v) m) c
        sooner-by None r best one same =
            let few = ap (λ (v : Fraction). v.under) is.fewest in
            inl (inl (inl (
              omega arith,
              none-with c.fewest (is.fewest ∙ ap (so_many (sum s)) (sym few)) (omega arith) (omega (arith, is.order)) best
                  (best_with c.fewest) (with-best c.fewest),
            )))
        sooner-by (Some m) None best one same = absurd same
        sooner-by (Some m) (Some r) best one same =
            corner-sooner m r (AddsUpTo-shift sum (with_values known (so_many (sum s) x)) splits r one.reached) one.some best
            (level.alike r m same.2)

        pub attained-sooner : AreSame (best_with (so_many (sum s) x)) of_all → AtCorners (λ v. (v.under ≤ x) × AreSame (best_with v) of_all) c
        attained-sooner same = sooner-by of_all (best_with (so_many (sum s) x)) all-best (with-best (so_many (sum s) x)) same
