-- What is answered from what is known of a range of times is the answer of the windows and of the landmarks.
use Rattle.std.proofs.Common.{◌≡◌, ◌∙◌, ℕ, ◌+◌, List, [], ◌∷◌, map, refl, sym, ap, ap₂, arith, Option, Some, None}
use Rattle.std.specs.Prelude.{ℤ, pos, ◌+ℤ◌, sum_by}
use Rattle.std.specs.List.{filter}
use Rattle.std.specs.Int.{int_max, int_min}
use Rattle.std.proofs.lemmas.Int.{ints}
use Rattle.std.proofs.lemmas.List.Sums.{sum_by-cons}
use Rattle.ss_bounds.specs.Either.{either, greatest_in, least_in}
use Rattle.ss_bounds.specs.Extremes.{listed, max_interval, min_interval}
use Rattle.ss_bounds.specs.Guess.{count_guess, sum_guess}
use Rattle.ss_bounds.specs.MeanGuess.{mean_guess}
use Rattle.ss_bounds.specs.Means.{mean_interval}
use Rattle.ss_bounds.specs.Split.{SplitFigures, greatest_count, least_count, sum_interval}
use Rattle.ss_bounds.specs.Truth.{asked, total}
use Rattle.ss_bounds.proofs.ChoiceLemmas.{IsChoice-max, IsChoice-min, choice_in-append}
use Rattle.ss_catalog.specs.declared.query.Kind.{Kind}
use Rattle.ss_catalog.specs.declared.query.Kind.TheVariants as kinds
use Rattle.ss_catalog.specs.declared.query.Query.{Query}
use Rattle.ss_landmarks.specs.Free.{is_free}
use Rattle.ss_landmarks.specs.Landmark.{Landmark}
use Rattle.ss_landmarks.specs.declared.tally.Tally.{Tally}
use Rattle.ss_model.specs.Answers.{answer_of, answer_of_kind}
use Rattle.ss_model.specs.Interval.{interval_of_count, interval_of_sum, is_split, known_maxs, known_mins, split_figures, split_windows, whole_windows}
use Rattle.ss_model.specs.Interval as intervals
use Rattle.ss_model.specs.Marks.{marked_values}
use Rattle.ss_model.specs.Standing.{IsStream}
use Rattle.ss_model.specs.State.{Stream}
use Rattle.ss_model.specs.declared.outcome.Outcome.TheVariants.{Count, Estimate, Has, Max, Mean, MeanEstimate, Min, Sum}
use Rattle.ss_model.specs.declared.types.Window.{Window}
use Rattle.ss_query.specs.Asked.{counts_of, counts_seen, cut_of, figures_of, seen_count, seen_max, seen_min, seen_sum, outcome_seen}
use Rattle.ss_query.specs.Asked.{seen_of, sums_of, values_seen}
use Rattle.ss_query.specs.Asked.{sums_seen}
use Rattle.ss_query.specs.declared.asking.Seen.{Seen}
use Rattle.ss_query.specs.declared.cut.Cut.{Cut}
use Rattle.ss_query.proofs.MarkedTallies.{greatest-asked, least-asked, length-asked, total-asked}
use Rattle.ss_query.proofs.Seeing.{IsSeen, IsSeen-seen_of}

-- the figures of cut windows
abbrev figures_in : List Cut → List SplitFigures
figures_in cuts = map (λ (cut : Cut). cut.split) cuts

figures-cuts : (landmarks : List Landmark) (from to : ℕ) (ws : List Window) →
    figures_in (map (cut_of landmarks from to) ws) ≡ map (split_figures (is_free landmarks) from to) ws
figures-cuts landmarks from to [] = refl
figures-cuts landmarks from to (w ∷ ws) = ap (λ l. split_figures (is_free landmarks) from to w ∷ l) (figures-cuts landmarks from to ws)

listed-figures : (left right : Option Cut) → listed (figures_of left) (figures_of right) ≡ figures_in (listed left right)
listed-figures None None = refl
listed-figures None (Some r) = refl
listed-figures (Some l) None = refl
listed-figures (Some l) (Some r) = refl

counts-listed : (left right : Option Cut) →
    ((counts_of left).0 + (counts_of right).0 ≡ sum_by least_count (figures_in (listed left right)))
    × ((counts_of left).1 + (counts_of right).1 ≡ sum_by greatest_count (figures_in (listed left right)))
counts-listed None None = (refl, refl)
counts-listed None (Some r) =
    (omega (arith, sum_by-cons least_count r.split []), omega (arith, sum_by-cons greatest_count r.split []))
counts-listed (Some l) None =
    (omega (arith, sum_by-cons least_count l.split []), omega (arith, sum_by-cons greatest_count l.split []))
counts-listed (Some l) (Some r) = (
  omega (arith, sum_by-cons least_count l.split (r.split ∷ []), sum_by-cons least_count r.split []),
  omega (arith, sum_by-cons greatest_count l.split (r.split ∷ []), sum_by-cons greatest_count r.split []),
)

abbrev lows : List SplitFigures → ℤ
lows splits = total (map (λ (s : ℤ × ℤ). s.0) (map sum_interval splits))

abbrev highs : List SplitFigures → ℤ
highs splits = total (map (λ (s : ℤ × ℤ). s.1) (map sum_interval splits))

sums-listed : (known : ℤ) (left right : Option Cut) →
    ((known +ℤ (sums_of left).0) +ℤ (sums_of right).0 ≡ (known +ℤ lows (figures_in (listed left right))))
    × ((known +ℤ (sums_of left).1) +ℤ (sums_of right).1 ≡ (known +ℤ highs (figures_in (listed left right))))
sums-listed known None None = (omega (arith, ints), omega (arith, ints))
sums-listed known None (Some r) = (omega (arith, ints), omega (arith, ints))
sums-listed known (Some l) None = (omega (arith, ints), omega (arith, ints))
sums-listed known (Some l) (Some r) = (omega (arith, ints), omega (arith, ints))

-- what is answered from what is known is the answer of the windows and of the values of landmarks
module _ (landmarks : List Landmark) (kind : Kind) (from to : ℕ) (seen : Seen) (ws : List Window) (is : IsSeen landmarks kind from to seen ws) where
  least-seen : seen_min seen.whole seen.marked ≡ least_in (known_mins from to ws (marked_values landmarks))
  least-seen =
      ap₂ (either int_min) is.known.least (ap (λ (t : Tally). t.least) is.marked ∙ least-asked landmarks from to)
      ∙ sym (choice_in-append IsChoice-min (map (λ (w : Window). w.summary.min) (whole_windows from to ws)) (asked from to (marked_values landmarks)))

  greatest-seen : seen_max seen.whole seen.marked ≡ greatest_in (known_maxs from to ws (marked_values landmarks))
  greatest-seen =
      ap₂ (either int_max) is.known.greatest (ap (λ (t : Tally). t.greatest) is.marked ∙ greatest-asked landmarks from to)
      ∙ sym (choice_in-append IsChoice-max (map (λ (w : Window). w.summary.max) (whole_windows from to ws)) (asked from to (marked_values landmarks)))

  -- how many values are known, and their sum
  pub seen_count-seen : seen_count seen.whole seen.marked ≡ intervals.known_count from to ws (marked_values landmarks)
  seen_count-seen =
      ap₂ (λ m n. m + n) is.known.count (ap (λ (t : Tally). t.count) is.marked ∙ length-asked landmarks from to)

  pub seen_sum-seen : seen_sum seen.whole seen.marked ≡ intervals.known_sum from to ws (marked_values landmarks)
  seen_sum-seen = ap₂ (λ p q. p +ℤ q) is.known.sum (ap (λ (t : Tally). t.sum) is.marked ∙ total-asked landmarks from to)

  values : values_seen seen ≡ intervals.known_values from to ws (marked_values landmarks)
  values = ap₂ (λ (sum : ℤ) (count : ℕ). record { over = sum; under = count }) seen_sum-seen seen_count-seen

  splits : figures_in (listed seen.left seen.right) ≡ split_windows (is_free landmarks) from to ws
  splits = ap (λ l. figures_in l) is.cuts ∙ figures-cuts landmarks from to (filter (is_split from to) ws)

  figures : listed (figures_of seen.left) (figures_of seen.right) ≡ split_windows (is_free landmarks) from to ws
  figures = listed-figures seen.left seen.right ∙ splits

  -- so are the ends of counts and sums
  counts : counts_seen seen ≡ interval_of_count (is_free landmarks) from to ws (marked_values landmarks)
  counts =
      let both = counts-listed seen.left seen.right in
      let least = both.0 ∙ ap (sum_by least_count) splits in
      let greatest = both.1 ∙ ap (sum_by greatest_count) splits in
      let known = seen_count-seen in
      ap₂ (λ (lo hi : ℕ). (lo, hi)) (omega (arith, known, least)) (omega (arith, known, greatest))

  sums : sums_seen seen ≡ interval_of_sum (is_free landmarks) from to ws (marked_values landmarks)
  sums =
      let both = sums-listed (seen_sum seen.whole seen.marked) seen.left seen.right in
      ap₂ (λ (lo hi : ℤ). (lo, hi)) (both.0 ∙ ap₂ (λ p q. p +ℤ q) seen_sum-seen (ap lows splits))
      (both.1 ∙ ap₂ (λ p q. p +ℤ q) seen_sum-seen (ap highs splits))

-- so is the answer to each kind of query
outcome-seen : (landmarks : List Landmark) (kind : Kind) (from to : ℕ) (seen : Seen) (ws : List Window) → IsSeen landmarks kind from to seen ws →
    outcome_seen kind seen ≡ answer_of_kind kind (is_free landmarks) from to ws (marked_values landmarks)
outcome-seen landmarks kinds.Count from to seen ws is =
    ap (λ (c : ℕ × ℕ). Count c.0 c.1) (counts landmarks kinds.Count from to seen ws is)
outcome-seen landmarks kinds.Sum from to seen ws is =
    ap (λ (s : ℤ × ℤ). Sum s.0 s.1) (sums landmarks kinds.Sum from to seen ws is)
outcome-seen landmarks kinds.Min from to seen ws is =
    ap Min (ap₂ min_interval (least-seen landmarks kinds.Min from to seen ws is)
    (figures landmarks kinds.Min from to seen ws is))
outcome-seen landmarks kinds.Max from to seen ws is =
    ap Max (ap₂ max_interval (greatest-seen landmarks kinds.Max from to seen ws is)
    (figures landmarks kinds.Max from to seen ws is))
outcome-seen landmarks kinds.Mean from to seen ws is =
    ap Mean (ap₂ mean_interval (values landmarks kinds.Mean from to seen ws is) (figures landmarks kinds.Mean from to seen ws is))
outcome-seen landmarks (kinds.Has v) from to seen ws is = ap Has is.presence
outcome-seen landmarks kinds.CountGuess from to seen ws is =
    ap₂ (λ (c : ℕ × ℕ) (guess : ℤ). Estimate (pos c.0) guess (pos c.1)) (counts landmarks kinds.CountGuess from to seen ws is)
    (ap₂ count_guess (ap pos (seen_count-seen landmarks kinds.CountGuess from to seen ws is)) (figures landmarks kinds.CountGuess from to seen ws is))
outcome-seen landmarks kinds.SumGuess from to seen ws is =
    ap₂ (λ (s : ℤ × ℤ) (guess : ℤ). Estimate s.0 guess s.1) (sums landmarks kinds.SumGuess from to seen ws is)
    (ap₂ sum_guess (seen_sum-seen landmarks kinds.SumGuess from to seen ws is) (figures landmarks kinds.SumGuess from to seen ws is))
outcome-seen landmarks kinds.MeanGuess from to seen ws is =
    ap MeanEstimate (ap₂ mean_guess (values landmarks kinds.MeanGuess from to seen ws is) (figures landmarks kinds.MeanGuess from to seen ws is))

-- so is what is answered from what is known of a stream
pub outcome_seen-seen_of : (query : Query) (s : Stream) → IsStream s →
    outcome_seen query.kind (seen_of query.kind query.from query.to s) ≡ answer_of query s
outcome_seen-seen_of query s is =
    outcome-seen s.landmarks query.kind query.from query.to (seen_of query.kind query.from query.to s) s.windows
    (IsSeen-seen_of query.kind query.from query.to s is)
