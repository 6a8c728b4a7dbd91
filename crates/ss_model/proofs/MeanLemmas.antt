-- What is known of a mean holds the truth, for any windows of some values, and is one number where the range splits none.
use Rattle.ss_model.proofs.Common.{ℤ, ap, arith, refl, sym, ◌∙◌, subst, inl, inr, ints, cases_lt, length-append}
use Rattle.ss_model.proofs.Common.{SplitFigures, asked, Point, split_windows, RiseAtFree, Window}
use Rattle.std.specs.Prelude.{◌≡◌, ℕ, Bool, List, [], ◌∷◌, map}
use Rattle.ss_bounds.specs.declared.fraction.Fraction.{Fraction}
use Rattle.ss_bounds.specs.MeanGuess.{mean_guess}
use Rattle.ss_bounds.specs.MeanTruth.{EachMayHave, HoldsMean, all_together, figures_alone}
use Rattle.ss_bounds.specs.Means.{mean_interval, with_values}
use Rattle.ss_bounds.specs.Truth.{values_of_all, windows_alone}
use Rattle.ss_bounds.proofs.BestLemmas.{fraction-is}
use Rattle.ss_bounds.proofs.MeanGuessLemmas.{mean_guess-known, mean_guess-nothing, mean_interval-nothing}
use Rattle.ss_bounds.proofs.MeanTruthLemmas.{mean_interval-HoldsMean, mean_interval-known}
use Rattle.ss_model.specs.Interval.{IsExactMean, IsExactMeanGuess, guess_of_mean, interval_of_mean, known_values}
use Rattle.ss_model.specs.Truth.{true_values}
use Rattle.ss_model.proofs.IntervalLemmas.{AllMayHave, AreOf, amount, parted-all, total-append}

-- the values of split windows by their sums and counts
abbrev amounts : List (SplitFigures × List ℤ) → List (SplitFigures × Fraction)
amounts splits = map (λ (w : SplitFigures × List ℤ). (w.0, amount w.1)) splits

amounts-may : (splits : List (SplitFigures × List ℤ)) → AllMayHave splits → EachMayHave (amounts splits)
amounts-may [] have = tt
amounts-may (w ∷ ws) have = (have.0, amounts-may ws have.1)

amounts-figures : (splits : List (SplitFigures × List ℤ)) → figures_alone (amounts splits) ≡ windows_alone splits
amounts-figures [] = refl
amounts-figures (w ∷ ws) = ap (λ l. w.0 ∷ l) (amounts-figures ws)

amounts-together : (known : Fraction) (splits : List (SplitFigures × List ℤ)) →
    all_together known (amounts splits) ≡ with_values known (amount (values_of_all splits))
amounts-together known [] = fraction-is known (with_values known (amount [])) (omega (arith, ints)) (omega arith)
amounts-together known (w ∷ ws) =
    let more = with_values known (amount w.1) in
    let sum = total-append w.1 (values_of_all ws) in
    let count = length-append w.1 (values_of_all ws) in
    amounts-together more ws
    ∙ fraction-is (with_values more (amount (values_of_all ws))) (with_values known (amount (values_of_all (w ∷ ws)))) (omega (arith, ints)) (omega arith)

-- the true mean lies in its interval
module _ (free : ℕ → Bool) (from to : ℕ) (ws : List Window) (plain marked : List Point) (start : ℕ) (of : AreOf ws plain)
    (rising : RiseAtFree free start plain) where
  pub mean-HoldsMean : HoldsMean (interval_of_mean free from to ws marked) (true_values from to plain marked)
  mean-HoldsMean =
      let parts = parted-all free from to ws plain start of rising in
      let known = known_values from to ws marked in
      let values = amounts parts.splits in
      let sum = total-append (asked from to plain) (asked from to marked) in
      let count = length-append (asked from to plain) (asked from to marked) in
      let parted = parts.sum in
      let counted = parts.count in
      let all : all_together known values ≡ true_values from to plain marked =
      amounts-together known parts.splits
      ∙ fraction-is (with_values known (amount (values_of_all parts.splits))) (true_values from to plain marked) (omega (arith, ints)) (omega arith) in
      let holds = mean_interval-HoldsMean known values (amounts-may parts.splits parts.have) in
      subst (λ z. HoldsMean (mean_interval known z) (true_values from to plain marked)) (amounts-figures parts.splits ∙ parts.windows)
      (subst (HoldsMean (mean_interval known (figures_alone values))) all holds)

-- of what is known alone it is one number, or there is none
known-exact : (known : Fraction) → IsExactMean (mean_interval known [])
known-exact known = elim (cases_lt 0 known.under) [
  | inl some ↦ subst IsExactMean (sym (mean_interval-known known some)) refl
  | inr none ↦ subst IsExactMean (sym (mean_interval-nothing known (omega arith))) tt
]

guess-known-exact : (known : Fraction) → IsExactMeanGuess (mean_guess known [])
guess-known-exact known = elim (cases_lt 0 known.under) [
  | inl some ↦ subst IsExactMeanGuess (sym (mean_guess-known known some)) (refl, refl)
  | inr none ↦ subst IsExactMeanGuess (sym (mean_guess-nothing known (omega arith))) tt
]

-- where the range splits no window, nothing is left open
module _ (free : ℕ → Bool) (from to : ℕ) (ws : List Window) (marked : List Point) (unsplit : split_windows free from to ws ≡ []) where
  pub mean-exact : IsExactMean (interval_of_mean free from to ws marked)
  mean-exact = subst (λ z. IsExactMean (mean_interval (known_values from to ws marked) z)) (sym unsplit) (known-exact (known_values from to ws marked))

  pub guess-exact : IsExactMeanGuess (guess_of_mean free from to ws marked)
  guess-exact = subst (λ z. IsExactMeanGuess (mean_guess (known_values from to ws marked) z)) (sym unsplit) (guess-known-exact (known_values from to ws marked))
