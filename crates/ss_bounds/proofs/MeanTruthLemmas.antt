-- The true mean lies in its interval, and each end is attained.
use Rattle.std.specs.Prelude.{◌≡◌, ℕ, ◌+◌, ◌<◌, ◌≤◌, ◌==◌, nat_le, Bool, true, false, if◌then◌else◌}
use Rattle.std.specs.Prelude.{ℤ, pos, ◌*ℤ◌, ◌≤ℤ◌, List, [], ◌∷◌, Option, None, Some, sum_by}
use Rattle.std.specs.Option.{option_map}
use Rattle.std.proofs.Common.{ap, arith, refl, sym, ◌∙◌}
use Rattle.std.proofs.lemmas.Bool.Decides.{nat_tests}
use Rattle.std.proofs.lemmas.Int.{ints}
use Rattle.std.proofs.lemmas.List.Sums.{sum_by-cons}
use Rattle.ss_summary.proofs.Bounds.{times-le-times}
use Rattle.ss_bounds.specs.declared.fraction.Fraction.{Fraction}
use Rattle.ss_bounds.specs.declared.mean.Mean.TheVariants.{Sure}
use Rattle.ss_bounds.specs.Fractions.{IsAtMost, at_most, at_least, lowest}
use Rattle.ss_bounds.specs.Guess.{AreAllSplit}
use Rattle.ss_bounds.specs.Means.{AddsUpTo, best_mean, mean_from, mean_interval, so_many, with_values}
use Rattle.ss_bounds.specs.MeanTruth.{AreAttained, EachMayHave, HoldsMean, all_together, figures_alone}
use Rattle.ss_bounds.specs.Split.{SplitFigures, least_count, low_sum, high_sum}
use Rattle.ss_bounds.proofs.FractionLemmas.{IsAtMost-IsSame, IsAtMost-trans, IsSame-sym, IsOrder-at_least, IsOrder-at_most}
use Rattle.ss_bounds.proofs.LowestLemmas.{IsLowest-lowest}
use Rattle.ss_bounds.proofs.BestLemmas.{AreAllSplit-ordered, AreOrdered, IsBest, IsBest-best_mean}

-- as many values with a lesser sum have a lesser mean
less-sum : (a b : Fraction) → a.under ≡ b.under → a.over ≤ℤ b.over → IsAtMost a b
less-sum a b same less =
    let steps = times-le-times b.under a.over b.over less in
    let turned = ap (λ n. pos n *ℤ b.over) same in
    record { crosswise = omega (arith, ints) }

-- with the least sums, and with the greatest, as many values are reached
record IsReached (sum : SplitFigures → ℕ → ℤ) (known : Fraction) (splits : List SplitFigures) (Beside : ℤ → ℤ → Type 0) (values : Fraction) : Type 0 where
  pub at : Fraction
  pub reached : AddsUpTo sum known splits at
  pub under : at.under ≡ values.under
  pub over : Beside at.over values.over

low-reached : (known more : Fraction) (ws : List (SplitFigures × Fraction)) → EachMayHave ws → known.under ≡ more.under → known.over ≤ℤ more.over
    → IsReached low_sum known (figures_alone ws) (λ a b. a ≤ℤ b) (all_together more ws)
low-reached known more [] may same less = record { at = known; reached = refl; under = same; over = less }
low-reached known more (w ∷ ws) may same less =
    let here = may.0 in
    let rest = low-reached (with_values known (so_many (low_sum w.0) w.1.under)) (with_values more w.1) ws
    may.1 (omega arith) (omega (arith, ints, here.low)) in
    record { at = rest.at; reached = (w.1.under, here.fewest, here.most, rest.reached); under = rest.under; over = rest.over }

high-reached : (known more : Fraction) (ws : List (SplitFigures × Fraction)) → EachMayHave ws → known.under ≡ more.under → more.over ≤ℤ known.over
    → IsReached high_sum known (figures_alone ws) (λ a b. b ≤ℤ a) (all_together more ws)
high-reached known more [] may same less = record { at = known; reached = refl; under = same; over = less }
high-reached known more (w ∷ ws) may same less =
    let here = may.0 in
    let rest = high-reached (with_values known (so_many (high_sum w.0) w.1.under)) (with_values more w.1) ws
    may.1 (omega arith) (omega (arith, ints, here.high)) in
    record { at = rest.at; reached = (w.1.under, here.fewest, here.most, rest.reached); under = rest.under; over = rest.over }

-- as many values are there as lie there for sure, or more
some-there : (known : Fraction) (ws : List (SplitFigures × Fraction)) → EachMayHave ws
    → known.under + sum_by least_count (figures_alone ws) ≤ (all_together known ws).under
some-there known [] may = omega arith
some-there known (w ∷ ws) may =
    let here = may.0 in
    let rest = some-there (with_values known w.1) ws may.1 in
    omega (arith, here.fewest, sum_by-cons least_count w.0 (figures_alone ws))

-- ---- the true mean lies between the least and the greatest

module _ (v a b : Fraction) (P Q : Fraction → Type 0) (at_a : P a) (at_b : Q b) (same_a : a.under ≡ v.under) (same_b : b.under ≡ v.under)
    (low : a.over ≤ℤ v.over) (high : v.over ≤ℤ b.over) where
  above-least : (l : Fraction) → IsBest IsOrder-at_most P (Some l) → 0 < v.under → IsAtMost (lowest l) v
  above-least l best more =
      let is = IsLowest-lowest l best.some in
      let down = IsAtMost-IsSame (lowest l) l (IsSame-sym l (lowest l) is.same) in
      let up = less-sum a v same_a low in
      IsAtMost-trans (lowest l) l v best.some down (IsAtMost-trans l a v (omega arith) (best.best a at_a (omega arith)) up)

  below-greatest : (h : Fraction) → IsBest IsOrder-at_least Q (Some h) → 0 < v.under → IsAtMost v (lowest h)
  below-greatest h best more =
      let is = IsLowest-lowest h best.some in
      let up = IsAtMost-IsSame h (lowest h) is.same in
      let down = less-sum v b (sym same_b) high in
      IsAtMost-trans v h (lowest h) best.some (IsAtMost-trans v b h (omega arith) down (best.best b at_b (omega arith))) up

  holds-between : (sure : Bool) → (sure ≡ true → 0 < v.under) → (lo hi : Option Fraction) → IsBest IsOrder-at_most P lo
      → IsBest IsOrder-at_least Q hi → HoldsMean (mean_from sure (option_map lowest lo) (option_map lowest hi)) v
  holds-between sure there None hi first second = sym same_a ∙ first.none a at_a
  holds-between sure there (Some l) None first second = sym same_b ∙ second.none b at_b
  holds-between true there (Some l) (Some h) first second =
      (there refl, above-least l first (there refl), below-greatest h second (there refl))
  holds-between false there (Some l) (Some h) first second = λ more. (above-least l first more, below-greatest h second more)

EachMayHave-ordered : (ws : List (SplitFigures × Fraction)) → EachMayHave ws → AreOrdered (figures_alone ws)
EachMayHave-ordered [] may = tt
EachMayHave-ordered (w ∷ ws) may = let here = may.0 in (omega (arith, here.fewest, here.most), EachMayHave-ordered ws may.1)

pub mean_interval-HoldsMean : (known : Fraction) (ws : List (SplitFigures × Fraction)) → EachMayHave ws
    → HoldsMean (mean_interval known (figures_alone ws)) (all_together known ws)
unfolding mean_interval
mean_interval-HoldsMean known ws may =
    let ordered = EachMayHave-ordered ws may in
    let low = low-reached known known ws may refl (omega (arith, ints)) in
    let high = high-reached known known ws may refl (omega (arith, ints)) in
    let many = some-there known ws may in
    holds-between (all_together known ws) low.at high.at (AddsUpTo low_sum known (figures_alone ws)) (AddsUpTo high_sum known (figures_alone ws))
    low.reached high.reached low.under high.under low.over high.over
    (nat_le 1 (known.under + sum_by least_count (figures_alone ws)))
    (λ sure. let some : 1 ≤ known.under + sum_by least_count (figures_alone ws) = grind (arith, nat_tests) in omega arith)
    (best_mean at_most low_sum known (figures_alone ws)) (best_mean at_least high_sum known (figures_alone ws))
    (IsBest-best_mean IsOrder-at_most low_sum known (figures_alone ws) ordered)
    (IsBest-best_mean IsOrder-at_least high_sum known (figures_alone ws) ordered)

-- ---- each end is attained

-- as many values are reached with other sums
pub as-many : (sum other : SplitFigures → ℕ → ℤ) (known more : Fraction) (splits : List SplitFigures) (v : Fraction) → known.under ≡ more.under
    → AddsUpTo sum known splits v → (u : Fraction) × AddsUpTo other more splits u × (u.under ≡ v.under)
as-many sum other known more [] v same is = (more, refl, sym same ∙ ap (λ (f : Fraction). f.under) is)
as-many sum other known more (s ∷ splits) v same (x, from, to, reached) =
    let rest = as-many sum other (with_values known (so_many (sum s) x)) (with_values more (so_many (other s) x)) splits v (omega arith) reached in
    (rest.0, (x, from, to, rest.1), rest.2)

attained-from : (known : Fraction) (splits : List SplitFigures) (sure : Bool) (lo hi : Option Fraction)
    → IsBest IsOrder-at_most (AddsUpTo low_sum known splits) lo → IsBest IsOrder-at_least (AddsUpTo high_sum known splits) hi
    → AreAttained known splits (mean_from sure (option_map lowest lo) (option_map lowest hi))
attained-from known splits sure None hi first second = first.none
attained-from known splits sure (Some l) None first second = λ v reached.
    let other = as-many low_sum high_sum known known splits v refl reached in
    sym other.2 ∙ second.none other.0 other.1
attained-from known splits true (Some l) (Some h) first second = (
  (l, first.reached, first.some, (IsLowest-lowest l first.some).same),
  (h, second.reached, second.some, (IsLowest-lowest h second.some).same),
)
attained-from known splits false (Some l) (Some h) first second = (
  (l, first.reached, first.some, (IsLowest-lowest l first.some).same),
  (h, second.reached, second.some, (IsLowest-lowest h second.some).same),
)

pub mean_interval-AreAttained : (known : Fraction) (splits : List SplitFigures) → AreAllSplit splits
    → AreAttained known splits (mean_interval known splits)
unfolding mean_interval
mean_interval-AreAttained known splits all =
    let ordered = AreAllSplit-ordered splits all in
    attained-from known splits (nat_le 1 (known.under + sum_by least_count splits))
    (best_mean at_most low_sum known splits) (best_mean at_least high_sum known splits)
    (IsBest-best_mean IsOrder-at_most low_sum known splits ordered)
    (IsBest-best_mean IsOrder-at_least high_sum known splits ordered)

-- ---- where nothing is split the mean is one number

known-tested : (known : Fraction) (none some : Bool) → (known.under == 0) ≡ none → nat_le 1 (known.under + 0) ≡ some → 0 < known.under
    → mean_from some (option_map lowest (if none then None else Some known)) (option_map lowest (if none then None else Some known))
    ≡ Sure (lowest known) (lowest known)
known-tested known true some is fine more = absurd (grind (arith, nat_tests))
known-tested known false false is fine more = absurd (grind (arith, nat_tests))
known-tested known false true is fine more = refl

pub mean_interval-known : (known : Fraction) → 0 < known.under → mean_interval known [] ≡ Sure (lowest known) (lowest known)
unfolding mean_interval
mean_interval-known known more = known-tested known (known.under == 0) (nat_le 1 (known.under + 0)) refl refl more
