-- The best mean is found at the corners: of each split window only a few numbers of values matter.
use Rattle.std.specs.Prelude.{◌≡◌, ◌⊎◌, ℕ, ◌+◌, ◌-◌, ◌<◌, ◌≤◌, min, max, Bool, nat_le, ℤ, pos, List, [], ◌∷◌, Option, None, Some, sum_by}
use Rattle.std.specs.Option.{option_map}
use Rattle.std.proofs.Common.{ap, arith, inl, inr, refl, subst, sym, ◌∙◌}
use Rattle.std.proofs.lemmas.Bool.{cases_lt}
use Rattle.std.proofs.lemmas.Int.{ints}
use Rattle.std.proofs.lemmas.List.Sums.{sum_by-cons}
use Rattle.ss_bounds.specs.declared.corners.Corners.{Corners}
use Rattle.ss_bounds.specs.declared.corners.Sides.{Sides}
use Rattle.ss_bounds.specs.declared.fraction.Fraction.{Fraction}
use Rattle.ss_bounds.specs.declared.side.Side.{Side}
use Rattle.ss_bounds.specs.declared.side.Side.TheVariants.{Least, Greatest}
use Rattle.ss_bounds.specs.Corners.{AreCorners, AreCornersOf, AreSame, best_at, best_of_corners, fewest_of, order_of, sum_at}
use Rattle.ss_bounds.specs.Extremes.{listed}
use Rattle.ss_bounds.specs.Fractions.{lowest}
use Rattle.ss_bounds.specs.Lines.{IsStraight}
use Rattle.ss_bounds.specs.Means.{AddsUpTo, better, best_mean, mean_from, mean_interval, mean_of, so_many, with_values}
use Rattle.ss_bounds.specs.Split.{SplitFigures, IsSplit, least_count, greatest_count}
use Rattle.ss_bounds.proofs.AttainedLemmas.{least_count-order}
use Rattle.ss_bounds.proofs.BestLemmas.{IsBest, IsBest-best_mean, IsBest-better, IsBest-mean_of, IsBest-more, IsBest-same}
use Rattle.ss_bounds.proofs.BestLemmas.{fraction-is, with_values-assoc, with_values-none, with_values-swapped}
use Rattle.ss_bounds.proofs.FractionLemmas.{IsOrder, IsOrder-at_least, IsOrder-at_most, further}
use Rattle.ss_bounds.proofs.LowestLemmas.{lowest-same}
use Rattle.ss_bounds.proofs.StraightLemmas.{IsStraight-apart}

-- what is reached from some known values is so from others, with the same ones besides
pub record IsShift (sum : SplitFigures → ℕ → ℤ) (known : Fraction) (splits : List SplitFigures) (m : Fraction) : Type 0 where
  pub rest : Fraction
  pub is : m ≡ with_values known rest
  pub reaches : (k : Fraction) → AddsUpTo sum k splits (with_values k rest)

pub AddsUpTo-shift : (sum : SplitFigures → ℕ → ℤ) (known : Fraction) (splits : List SplitFigures) (m : Fraction)
    → AddsUpTo sum known splits m → IsShift sum known splits m
AddsUpTo-shift sum known [] m is = record {
  rest = record { over = pos 0; under = 0 };
  is = sym is ∙ with_values-none known;
  reaches = λ k. with_values-none k;
}
AddsUpTo-shift sum known (s ∷ splits) m (x, from, to, more) =
    let next = AddsUpTo-shift sum (with_values known (so_many (sum s) x)) splits m more in
    record {
      rest = with_values (so_many (sum s) x) next.rest;
      is = next.is ∙ with_values-assoc known (so_many (sum s) x) next.rest;
      reaches = λ k. (
        x,
        from,
        to,
        subst (λ a. AddsUpTo sum (with_values k (so_many (sum s) x)) splits a) (with_values-assoc k (so_many (sum s) x) next.rest)
            (next.reaches (with_values k (so_many (sum s) x))),
      );
    }

-- one of the corners meets a condition
abbrev pub AtCorners : (Fraction → Type 0) → Corners → Type 0
AtCorners Q c = ((Q c.fewest ⊎ Q c.some) ⊎ (Q c.before ⊎ Q c.after)) ⊎ Q c.most

module _ {test : Fraction → Fraction → Bool} {Better : Fraction → Fraction → Type 0} (order : IsOrder test Better) where
  -- ---- the corners

  -- over a straight stretch one of its ends is as good as what lies between
  stretch-ends : (f : ℕ → ℤ) (t : ℤ) (l h x : ℕ) → IsStraight f t l h → l ≤ x → x ≤ h → (w : Fraction)
      → Better (with_values w (so_many f l)) (with_values w (so_many f x)) ⊎ Better (with_values w (so_many f h)) (with_values w (so_many f x))
  stretch-ends f t l h x straight from to w =
      let at_x = IsStraight-apart f t l h straight l x (omega arith) from to in
      let at_h = IsStraight-apart f t l h straight x h from to (omega arith) in
      let here : further (with_values w (so_many f l)) (x - l) t ≡ with_values w (so_many f x) = fraction-is _ _ (omega (arith, ints)) (omega arith) in
      let there : further (further (with_values w (so_many f l)) (x - l) t) (h - x) t ≡ with_values w (so_many f h) =
      fraction-is _ _ (omega (arith, ints)) (omega arith) in
      elim (order.ends (with_values w (so_many f l)) (x - l) (h - x) t) [
        | inl first ↦ inl (subst (λ v. Better (with_values w (so_many f l)) v) here first)
        | inr last ↦ inr (subst (λ v. Better v (with_values w (so_many f x))) there
            (subst (λ v. Better (further (further (with_values w (so_many f l)) (x - l) t) (h - x) t) v) here last))
      ]

  module _ (f : ℕ → ℤ) (a b : ℕ) (c : Corners) (is : AreCorners f a b c) where
    -- beside some known values w a corner is as good as any number x of values
    module _ (w : Fraction) (x : ℕ) (from : a ≤ x) (to : x ≤ b) (more : 0 < w.under + x) where
      abbrev IsAbove : Fraction → Type 0
      IsAbove v = (0 < w.under + v.under) × Better (with_values w v) (with_values w (so_many f x))

      above-at : (v : Fraction) (y : ℕ) → v ≡ so_many f y → 0 < w.under + y → Better (with_values w (so_many f y)) (with_values w (so_many f x)) → IsAbove v
      above-at v y same some above = subst IsAbove (sym same) (some, above)

      above-some : w.under + a ≡ 0 → Better (with_values w (so_many f 1)) (with_values w (so_many f x)) → IsAbove c.some
      above-some none above =
          let one : 1 ≡ min (max a 1) b = omega arith in
          above-at c.some (min (max a 1) b) is.some (omega arith) (subst (λ y. Better (with_values w (so_many f y)) (with_values w (so_many f x))) one above)

      above-before : x ≤ c.before.under → AtCorners IsAbove c
      above-before early =
          let straight = is.bends.first in
          let last = above-at c.before c.before.under is.before (omega arith) in
          elim (cases_lt 0 (w.under + a)) [
            | inl some ↦ elim (stretch-ends f straight.0 a c.before.under x straight.1 from early w) [
              | inl low ↦ inl (inl (inl (above-at c.fewest a is.fewest some low)))
              | inr high ↦ inl (inr (inl (last high)))
            ]
            | inr none ↦ elim (stretch-ends f straight.0 1 c.before.under x
                (record { next = λ y start stop. straight.1.next y (omega arith) stop }) (omega arith) early w) [
                  | inl low ↦ inl (inl (inr (above-some (omega arith) low)))
                  | inr high ↦ inl (inr (inl (last high)))
                ]
          ]

      above-after : c.after.under ≤ x → AtCorners IsAbove c
      above-after late =
          let straight = is.bends.second in
          let bends = is.bends in
          let last = above-at c.most b is.most (omega arith) in
          elim (cases_lt 0 (w.under + c.after.under)) [
            | inl some ↦ elim (stretch-ends f straight.0 c.after.under b x straight.1 late to w) [
              | inl low ↦ inl (inr (inr (above-at c.after c.after.under is.after some low)))
              | inr high ↦ inr (last high)
            ]
            | inr none ↦ elim (stretch-ends f straight.0 1 b x
                (record { next = λ y start stop. straight.1.next y (omega arith) stop }) (omega arith) to w) [
                  | inl low ↦ inl (inl (inr (above-some (omega (arith, bends.from, bends.order)) low)))
                  | inr high ↦ inr (last high)
                ]
          ]

      corner-above : AtCorners IsAbove c
      corner-above = elim (cases_lt c.before.under x) [
        | inl late ↦ above-after (let beside = is.bends.beside in omega arith)
        | inr early ↦ above-before early
      ]

  IsBest-either : (P Q : Fraction → Type 0) (r t : Option Fraction) → IsBest order P r → IsBest order Q t → IsBest order (λ m. P m ⊎ Q m) (better test r t)
  IsBest-either P Q r t = IsBest-better order P Q (λ m. P m ⊎ Q m) (λ a p. inl p) (λ a q. inr q) (λ a both. both) r t

  IsBest-best_at : (P : Fraction → Fraction → Type 0) (f : Fraction → Option Fraction) → ((v : Fraction) → IsBest order (P v) (f v)) → (c : Corners)
      → IsBest order (λ m. AtCorners (λ v. P v m) c) (best_at test f c)
  IsBest-best_at P f each c =
      let few = IsBest-either (P c.fewest) (P c.some) (f c.fewest) (f c.some) (each c.fewest) (each c.some) in
      let middle = IsBest-either (P c.before) (P c.after) (f c.before) (f c.after) (each c.before) (each c.after) in
      let both = IsBest-either (λ m. P c.fewest m ⊎ P c.some m) (λ m. P c.before m ⊎ P c.after m)
      (better test (f c.fewest) (f c.some)) (better test (f c.before) (f c.after)) few middle in
      IsBest-either (λ m. (P c.fewest m ⊎ P c.some m) ⊎ (P c.before m ⊎ P c.after m)) (P c.most)
      (better test (better test (f c.fewest) (f c.some)) (better test (f c.before) (f c.after))) (f c.most) both (each c.most)

  module _ (sum : SplitFigures → ℕ → ℤ) (known : Fraction) (s : SplitFigures) (splits : List SplitFigures) (c : Corners)
      (is : AreCorners (sum s) (least_count s) (greatest_count s) c) where
    abbrev AtReached : Fraction → Type 0
    AtReached m = AtCorners (λ v. AddsUpTo sum (with_values known v) splits m) c

    reached-at : (m v : Fraction) (y : ℕ) → v ≡ so_many (sum s) y → least_count s ≤ y → y ≤ greatest_count s
        → AddsUpTo sum (with_values known v) splits m → AddsUpTo sum known (s ∷ splits) m
    reached-at m v y same from to reached = (y, from, to, subst (λ u. AddsUpTo sum (with_values known u) splits m) same reached)

    AtReached-Reaches : (m : Fraction) → AtReached m → AddsUpTo sum known (s ∷ splits) m
    AtReached-Reaches m (inl (inl (inl at))) = reached-at m c.fewest (least_count s) is.fewest (omega arith) is.order at
    AtReached-Reaches m (inl (inl (inr at))) =
        let order_is = is.order in
        reached-at m c.some (min (max (least_count s) 1) (greatest_count s)) is.some (omega arith) (omega arith) at
    AtReached-Reaches m (inl (inr (inl at))) =
        let bends = is.bends in reached-at m c.before c.before.under is.before bends.from (omega (arith, bends.order, bends.to)) at
    AtReached-Reaches m (inl (inr (inr at))) =
        let bends = is.bends in reached-at m c.after c.after.under is.after (omega (arith, bends.from, bends.order)) bends.to at
    AtReached-Reaches m (inr at) = reached-at m c.most (greatest_count s) is.most is.order (omega arith) at

    -- each choice is no better than one at a corner
    module _ (m : Fraction) (x : ℕ) (from : least_count s ≤ x) (to : x ≤ greatest_count s)
        (shift : IsShift sum (with_values known (so_many (sum s) x)) splits m) (more : 0 < m.under) where
      abbrev Covered : Type 0
      Covered = (u : Fraction) × AtReached u × (0 < u.under) × Better u m

      moved : m ≡ with_values (with_values known shift.rest) (so_many (sum s) x)
      moved = shift.is ∙ with_values-swapped known (so_many (sum s) x) shift.rest

      some-there : 0 < (with_values known shift.rest).under + x
      some-there = let under = ap (λ (f : Fraction). f.under) moved in omega arith

      covered : (v : Fraction) → AtReached (with_values (with_values known v) shift.rest)
          → (0 < known.under + shift.rest.under + v.under)
          × Better (with_values (with_values known shift.rest) v) (with_values (with_values known shift.rest) (so_many (sum s) x))
          → Covered
      covered v reached above = (
        with_values (with_values known v) shift.rest,
        reached,
        omega (arith, above.0),
        subst (λ z. Better z m) (sym (with_values-swapped known v shift.rest))
            (subst (λ z. Better (with_values (with_values known shift.rest) v) z) (sym moved) above.1),
      )

      corner-covered : Covered
      corner-covered = elim (corner-above (sum s) (least_count s) (greatest_count s) c is (with_values known shift.rest) x from to some-there) [
        | inl (inl (inl above)) ↦ covered c.fewest (inl (inl (inl (shift.reaches (with_values known c.fewest))))) above
        | inl (inl (inr above)) ↦ covered c.some (inl (inl (inr (shift.reaches (with_values known c.some))))) above
        | inl (inr (inl above)) ↦ covered c.before (inl (inr (inl (shift.reaches (with_values known c.before))))) above
        | inl (inr (inr above)) ↦ covered c.after (inl (inr (inr (shift.reaches (with_values known c.after))))) above
        | inr above ↦ covered c.most (inr (shift.reaches (with_values known c.most))) above
      ]

    IsBest-corners : (f : Fraction → Option Fraction) → ((v : Fraction) → IsBest order (AddsUpTo sum (with_values known v) splits) (f v))
        → IsBest order (AddsUpTo sum known (s ∷ splits)) (best_at test f c)
    IsBest-corners f each = IsBest-more order AtReached (AddsUpTo sum known (s ∷ splits)) AtReached-Reaches
        (λ m (x, from, to, reached) more. corner-covered m x from to (AddsUpTo-shift sum (with_values known (so_many (sum s) x)) splits m reached) more)
        (best_at test f c) (IsBest-best_at (λ v. AddsUpTo sum (with_values known v) splits) f each c)

  -- ---- what the code finds is the best mean

  pub none-found : (sum : SplitFigures → ℕ → ℤ) (known : Fraction) → AreSame (best_mean test sum known []) (mean_of known)
  none-found sum known = IsBest-same order (λ a. known ≡ a) (mean_of known) (mean_of known) (IsBest-mean_of order known) (IsBest-mean_of order known)

  -- the best mean at the corners of one window, and at those of two
  abbrev pub at_one : Fraction → Corners → Option Fraction
  at_one known c = best_at test (λ v. mean_of (with_values known v)) c

  abbrev pub at_two : Fraction → Corners → Corners → Option Fraction
  at_two known c d = best_at test (λ v. best_at test (λ w. mean_of (with_values (with_values known v) w)) d) c

  pub one-found : (sum : SplitFigures → ℕ → ℤ) (known : Fraction) (s : SplitFigures) (c : Corners) → IsSplit s
      → AreCorners (sum s) (least_count s) (greatest_count s) c → AreSame (best_mean test sum known (s ∷ [])) (at_one known c)
  one-found sum known s c split is =
      IsBest-same order (AddsUpTo sum known (s ∷ [])) (best_mean test sum known (s ∷ [])) (at_one known c)
      (IsBest-best_mean order sum known (s ∷ []) (least_count-order s split, tt))
      (IsBest-corners sum known s [] c is (λ v. mean_of (with_values known v)) (λ v. IsBest-mean_of order (with_values known v)))

  pub two-found : (sum : SplitFigures → ℕ → ℤ) (known : Fraction) (s t : SplitFigures) (c d : Corners) → IsSplit s → IsSplit t
      → AreCorners (sum s) (least_count s) (greatest_count s) c → AreCorners (sum t) (least_count t) (greatest_count t) d
      → AreSame (best_mean test sum known (s ∷ t ∷ [])) (at_two known c d)
  two-found sum known s t c d split other is there =
      IsBest-same order (AddsUpTo sum known (s ∷ t ∷ [])) (best_mean test sum known (s ∷ t ∷ [])) (at_two known c d)
      (IsBest-best_mean order sum known (s ∷ t ∷ []) (least_count-order s split, (least_count-order t other, tt)))
      (IsBest-corners sum known s (t ∷ []) c is (λ v. at_one (with_values known v) d)
      (λ v. IsBest-corners sum (with_values known v) t [] d there (λ w. mean_of (with_values (with_values known v) w))
      (λ w. IsBest-mean_of order (with_values (with_values known v) w))))

-- one number has one fraction in lowest terms
pub AreSame-lowest : (r t : Option Fraction) → AreSame r t → option_map lowest r ≡ option_map lowest t
AreSame-lowest None None same = refl
AreSame-lowest None (Some b) same = absurd same
AreSame-lowest (Some a) None same = absurd same
AreSame-lowest (Some a) (Some b) same = ap Some (lowest-same a b same.0 same.1 same.2)

-- what the code finds at the corners of either end
pub found-at : (side : Side) {Better : Fraction → Fraction → Type 0} → IsOrder (order_of side) Better → (known : Fraction)
    → (s t : Option SplitFigures) (c d : Option Corners) → AreCornersOf side s c → AreCornersOf side t d
    → AreSame (best_mean (order_of side) (sum_at side) known (listed s t)) (best_of_corners side known c d)
found-at side order known None None None None first second = none-found order (sum_at side) known
found-at side order known (Some s) None (Some c) None first second = one-found order (sum_at side) known s c first.0 first.1
found-at side order known None (Some t) None (Some d) first second = one-found order (sum_at side) known t d second.0 second.1
found-at side order known (Some s) (Some t) (Some c) (Some d) first second =
    two-found order (sum_at side) known s t c d first.0 second.0 first.1 second.1
found-at side order known None t (Some c) d first second = absurd first
found-at side order known (Some s) t None d first second = absurd first
found-at side order known None None None (Some d) first second = absurd second
found-at side order known None (Some t) None None first second = absurd second
found-at side order known (Some s) None (Some c) (Some d) first second = absurd second
found-at side order known (Some s) (Some t) (Some c) None first second = absurd second

pub found-lowest : (side : Side) (known : Fraction) (s t : Option SplitFigures) (c d : Option Corners) → AreCornersOf side s c → AreCornersOf side t d
    → option_map lowest (best_of_corners side known c d) ≡ option_map lowest (best_mean (order_of side) (sum_at side) known (listed s t))
found-lowest Least known s t c d first second =
    sym (AreSame-lowest (best_mean (order_of Least) (sum_at Least) known (listed s t)) (best_of_corners Least known c d)
    (found-at Least IsOrder-at_most known s t c d first second))
found-lowest Greatest known s t c d first second =
    sym (AreSame-lowest (best_mean (order_of Greatest) (sum_at Greatest) known (listed s t)) (best_of_corners Greatest known c d)
    (found-at Greatest IsOrder-at_least known s t c d first second))

-- how many values lie there for sure, of the windows that there are
fewest-listed : (s t : Option SplitFigures) → sum_by least_count (listed s t) ≡ fewest_of s + fewest_of t
fewest-listed None None = refl
fewest-listed (Some s) None = omega (arith, sum_by-cons least_count s [])
fewest-listed None (Some t) = omega (arith, sum_by-cons least_count t [])
fewest-listed (Some s) (Some t) = omega (arith, sum_by-cons least_count s (t ∷ []), sum_by-cons least_count t [])

pub found-interval : (known : Fraction) (s t : Option SplitFigures) (left right : Sides) (lo hi : Option Fraction) (sure : Bool)
    → AreCornersOf Least s left.least → AreCornersOf Least t right.least → AreCornersOf Greatest s left.greatest → AreCornersOf Greatest t right.greatest
    → left.fewest ≡ fewest_of s → right.fewest ≡ fewest_of t
    → lo ≡ option_map lowest (best_of_corners Least known left.least right.least)
    → hi ≡ option_map lowest (best_of_corners Greatest known left.greatest right.greatest)
    → sure ≡ nat_le 1 (known.under + left.fewest + right.fewest) → mean_from sure lo hi ≡ mean_interval known (listed s t)
unfolding mean_interval
found-interval known s t left right lo hi sure low_left low_right high_left high_right few_left few_right lo_is hi_is sure_is =
    let low = lo_is ∙ found-lowest Least known s t left.least right.least low_left low_right in
    let high = hi_is ∙ found-lowest Greatest known s t left.greatest right.greatest high_left high_right in
    let many : known.under + left.fewest + right.fewest ≡ known.under + sum_by least_count (listed s t) = omega (arith, fewest-listed s t) in
    let there = sure_is ∙ ap (nat_le 1) many in
    λ i. mean_from (there i) (low i) (high i)
