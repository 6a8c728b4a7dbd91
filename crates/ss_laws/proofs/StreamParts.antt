-- What a stream of a history answers of a range lies within what it answers of the parts of this range, put together.
use Rattle.std.specs.Prelude.{◌≡◌, ℕ, ◌+◌, ◌<◌, ◌≤◌, IsTrue, ℤ, ◌≤ℤ◌, List, [], ◌∷◌, All}
use Rattle.std.specs.List.{list_all}
use Rattle.std.proofs.Common.{ap, arith, get_or, refl, subst, sym, ◌∙◌}
use Rattle.std.proofs.lemmas.Bool.{and_parts}
use Rattle.std.proofs.lemmas.Int.{ints}
use Rattle.std.proofs.lemmas.List.Elements.{All-head, All-tail}
use Rattle.std.proofs.lemmas.List.Sums.{sum_by-cons}
use Rattle.ss_bounds.specs.Several.{greatest_of_all, least_of_all, sum_of_counts, sum_of_sums}
use Rattle.ss_bounds.specs.Split.{sum_interval}
use Rattle.ss_bounds.specs.declared.extreme.Extreme.TheVariants.{Nothing}
use Rattle.ss_bounds.specs.Several.{greater_of, lesser_of}
use Rattle.ss_catalog.specs.declared.series.Series.{Series}
use Rattle.ss_landmarks.specs.Free.{is_free}
use Rattle.ss_landmarks.specs.Landmark.{Landmark}
use Rattle.ss_model.specs.History.{Happened, landmarks_of, values_of}
use Rattle.ss_model.specs.Marks.{lies_free, marked_values}
use Rattle.ss_model.specs.Refusals.{IsHistory}
use Rattle.ss_targets.specs.Rule.{rule_of}
use Rattle.ss_model.specs.Standing.{IsStream}
use Rattle.ss_model.specs.State.{Stream, state}
use Rattle.ss_model.specs.Tiling.{StandFrom}
use Rattle.ss_model.specs.Windows.{windows}
use Rattle.ss_model.specs.declared.types.Window.{Window}
use Rattle.ss_model.proofs.HistoryLemmas.{IsState-state}
use Rattle.ss_model.proofs.IntervalLemmas.{count-lies, sum-lies}
use Rattle.ss_model.proofs.MarkLemmas.{LiesFree-lies_free}
use Rattle.ss_model.proofs.PieceLemmas.{AreOf-windows}
use Rattle.ss_model.proofs.ReadLemmas.{All-state}
use Rattle.ss_model.proofs.RisingLemmas.{values-rise}
use Rattle.ss_laws.specs.Parts.{IsCountWithin, IsExtremeWithin, IsSumWithin, answered_count, answered_greatest, answered_least, of_rows, answered_sum}
use Rattle.ss_laws.proofs.AdditionLemmas.{add_counts, counts-further, counts-put, interval_of_count-parts, no_count, one_count, pair}
use Rattle.ss_laws.proofs.AdditionLemmas.{split_count, sum_of_counts-together, whole_count}
use Rattle.ss_laws.proofs.AdditionLemmas.{add_sums, interval_of_sum-parts, no_sum, one_sum, sum_of_sums-together, sums-further, sums-put, whole_sum}
use Rattle.ss_laws.proofs.GreaterLemmas.{greatest-further, greatest-put, greatest_of_all-together, interval_of_greatest-parts, one_greatest, whole_greatest}
use Rattle.ss_laws.proofs.LesserLemmas.{interval_of_least-parts, least-further, least-put, least_of_all-together, one_least, whole_least}
use Rattle.ss_laws.proofs.ExtremeLemmas.{split_extreme}
use Rattle.ss_laws.proofs.PartLemmas.{AllStand, within-range}
use Rattle.ss_laws.proofs.RowLemmas.{within-rows}
use Rattle.ss_laws.proofs.Together.{within-alike}

-- windows that stand, each free among the landmarks
all-stand : (ls : List Landmark) (first time : ℕ) (ws : List Window) → StandFrom first time ws → IsTrue (list_all (lies_free ls) ws) → AllStand ls ws
all-stand ls first time [] stand free = tt
all-stand ls first time (w ∷ ws) stand free =
    let both = and_parts (lies_free ls w) (list_all (lies_free ls) ws) free in
    (record { possible = stand.1; lies = LiesFree-lies_free ls w both.0 }, all-stand ls (first + w.summary.count) (w.summary.t_last + 1) ws stand.3 both.1)

-- of two parts
module _ (s : Stream) (is : IsStream s) where
  stand : AllStand s.landmarks s.windows
  stand = all-stand s.landmarks 1 0 s.windows is.windows.stand is.free

  module _ (from mid to : ℕ) (before : from ≤ mid) (after : mid < to) where
    pub counts-two : IsCountWithin (answered_count s from to) (add_counts (answered_count s from mid) (answered_count s (mid + 1) to))
    counts-two =
        let parts = λ (p q : ℕ). interval_of_count-parts s.landmarks p q s.windows (marked_values s.landmarks) in
        within-alike no_count add_counts IsCountWithin counts-put _ _ _ _ _ _ (parts from to) (parts from mid) (parts (mid + 1) to)
        (within-range no_count add_counts IsCountWithin counts-put whole_count split_count one_count counts-further s.landmarks from mid to before after
        s.windows (marked_values s.landmarks) stand)

    pub counts-parts : IsCountWithin (answered_count s from to) (sum_of_counts (answered_count s from mid ∷ answered_count s (mid + 1) to ∷ []))
    counts-parts =
        let first = answered_count s from mid in
        let second = answered_count s (mid + 1) to in
        subst (IsCountWithin (answered_count s from to))
        (ap (add_counts first) (sym (counts-put.right second)) ∙ sum_of_counts-together (first ∷ second ∷ [])) counts-two

    pub sums-two : IsSumWithin (answered_sum s from to) (add_sums (answered_sum s from mid) (answered_sum s (mid + 1) to))
    sums-two =
        let parts = λ (p q : ℕ). interval_of_sum-parts s.landmarks p q s.windows (marked_values s.landmarks) in
        within-alike no_sum add_sums IsSumWithin sums-put _ _ _ _ _ _ (parts from to) (parts from mid) (parts (mid + 1) to)
        (within-range no_sum add_sums IsSumWithin sums-put whole_sum sum_interval one_sum sums-further s.landmarks from mid to before after
        s.windows (marked_values s.landmarks) stand)

    pub sums-parts : IsSumWithin (answered_sum s from to) (sum_of_sums (answered_sum s from mid ∷ answered_sum s (mid + 1) to ∷ []))
    sums-parts =
        let first = answered_sum s from mid in
        let second = answered_sum s (mid + 1) to in
        subst (IsSumWithin (answered_sum s from to))
        (ap (add_sums first) (sym (sums-put.right second)) ∙ sum_of_sums-together (first ∷ second ∷ [])) sums-two

    pub least-two : IsExtremeWithin (answered_least s from to) (lesser_of (answered_least s from mid) (answered_least s (mid + 1) to))
    least-two =
        let parts = λ (p q : ℕ). interval_of_least-parts s.landmarks p q s.windows (marked_values s.landmarks) stand in
        within-alike Nothing lesser_of IsExtremeWithin least-put _ _ _ _ _ _ (parts from to) (parts from mid) (parts (mid + 1) to)
        (within-range Nothing lesser_of IsExtremeWithin least-put whole_least split_extreme one_least least-further s.landmarks from mid to before after
        s.windows (marked_values s.landmarks) stand)

    pub least-parts : IsExtremeWithin (answered_least s from to) (least_of_all (answered_least s from mid ∷ answered_least s (mid + 1) to ∷ []))
    least-parts =
        let first = answered_least s from mid in
        let second = answered_least s (mid + 1) to in
        subst (IsExtremeWithin (answered_least s from to))
        (ap (lesser_of first) (sym (least-put.right second)) ∙ least_of_all-together (first ∷ second ∷ [])) least-two

    pub greatest-two : IsExtremeWithin (answered_greatest s from to) (greater_of (answered_greatest s from mid) (answered_greatest s (mid + 1) to))
    greatest-two =
        let parts = λ (p q : ℕ). interval_of_greatest-parts s.landmarks p q s.windows (marked_values s.landmarks) stand in
        within-alike Nothing greater_of IsExtremeWithin greatest-put _ _ _ _ _ _ (parts from to) (parts from mid) (parts (mid + 1) to)
        (within-range Nothing greater_of IsExtremeWithin greatest-put whole_greatest split_extreme one_greatest greatest-further s.landmarks from mid to
        before after s.windows (marked_values s.landmarks) stand)

    pub greatest-parts : IsExtremeWithin (answered_greatest s from to) (greatest_of_all (answered_greatest s from mid ∷ answered_greatest s (mid + 1) to ∷ []))
    greatest-parts =
        let first = answered_greatest s from mid in
        let second = answered_greatest s (mid + 1) to in
        subst (IsExtremeWithin (answered_greatest s from to))
        (ap (greater_of first) (sym (greatest-put.right second)) ∙ greatest_of_all-together (first ∷ second ∷ [])) greatest-two

  -- of the rows of a series
  module _ (series : Series) (some : 0 < series.step) (order : series.from ≤ series.to) where
    pub counts-rows : IsCountWithin (answered_count s series.from series.to) (sum_of_counts (of_rows (answered_count s) series))
    counts-rows =
        subst (IsCountWithin (answered_count s series.from series.to)) (sum_of_counts-together (of_rows (answered_count s) series))
        (within-rows no_count add_counts IsCountWithin counts-put (answered_count s) counts-two series some order)

    pub sums-rows : IsSumWithin (answered_sum s series.from series.to) (sum_of_sums (of_rows (answered_sum s) series))
    sums-rows =
        subst (IsSumWithin (answered_sum s series.from series.to)) (sum_of_sums-together (of_rows (answered_sum s) series))
        (within-rows no_sum add_sums IsSumWithin sums-put (answered_sum s) sums-two series some order)

    pub least-rows : IsExtremeWithin (answered_least s series.from series.to) (least_of_all (of_rows (answered_least s) series))
    least-rows =
        subst (IsExtremeWithin (answered_least s series.from series.to)) (least_of_all-together (of_rows (answered_least s) series))
        (within-rows Nothing lesser_of IsExtremeWithin least-put (answered_least s) least-two series some order)

    pub greatest-rows : IsExtremeWithin (answered_greatest s series.from series.to) (greatest_of_all (of_rows (answered_greatest s) series))
    greatest-rows =
        subst (IsExtremeWithin (answered_greatest s series.from series.to)) (greatest_of_all-together (of_rows (answered_greatest s) series))
        (within-rows Nothing greater_of IsExtremeWithin greatest-put (answered_greatest s) greatest-two series some order)

-- where each of some intervals is one number, so is their sum
exact-counts : (all : List (ℕ × ℕ)) → All (λ (i : ℕ × ℕ). i.0 ≡ i.1) all → (sum_of_counts all).0 ≡ (sum_of_counts all).1
exact-counts [] each = refl
exact-counts (c ∷ all) each =
    let P : ℕ × ℕ → Type 0 = λ i. i.0 ≡ i.1 in
    let low = sum_by-cons (λ (i : ℕ × ℕ). i.0) c all in
    let high = sum_by-cons (λ (i : ℕ × ℕ). i.1) c all in
    omega (arith, low, high, All-head P c all each, exact-counts all (All-tail P c all each))

exact-sums : (all : List (ℤ × ℤ)) → All (λ (i : ℤ × ℤ). i.0 ≡ i.1) all → (sum_of_sums all).0 ≡ (sum_of_sums all).1
exact-sums [] each = refl
exact-sums (c ∷ all) each =
    let P : ℤ × ℤ → Type 0 = λ i. i.0 ≡ i.1 in
    omega (arith, ints, All-head P c all each, exact-sums all (All-tail P c all each))

-- the streams of a history
module _ (history : List Happened) (history_is : IsHistory history) where
  each : All IsStream (state history)
  each = (IsState-state history history_is).each

  -- an interval of a history doesn't end before it begins
  counts-order : (from to : ℕ) → All (λ s. (answered_count s from to).0 ≤ (answered_count s from to).1) (state history)
  counts-order from to =
      All-state (λ s. (answered_count s from to).0 ≤ (answered_count s from to).1) history
      (λ c.
      let ls = landmarks_of history c.name in
      let values = values_of history c.name in
      let both = count-lies (is_free ls) from to (windows (rule_of c.params) values) values (marked_values ls) 0
      (AreOf-windows (rule_of c.params) values) (values-rise history c.name history_is) in
      omega (arith, both.0, both.1))

  sums-order : (from to : ℕ) → All (λ s. (answered_sum s from to).0 ≤ℤ (answered_sum s from to).1) (state history)
  sums-order from to =
      All-state (λ s. (answered_sum s from to).0 ≤ℤ (answered_sum s from to).1) history
      (λ c.
      let ls = landmarks_of history c.name in
      let values = values_of history c.name in
      let both = sum-lies (is_free ls) from to (windows (rule_of c.params) values) values (marked_values ls) 0
      (AreOf-windows (rule_of c.params) values) (values-rise history c.name history_is) in
      omega (arith, ints, both.0, both.1))

  module _ (series : Series) (some : 0 < series.step) (order : series.from ≤ series.to) where
    pub exact-count_rows : All (λ s. All (λ (i : ℕ × ℕ). i.0 ≡ i.1) (of_rows (answered_count s) series)
        → answered_count s series.from series.to ≡ sum_of_counts (of_rows (answered_count s) series)) (state history)
    exact-count_rows = λ k d inside exact.
        let s = get_or (state history) k d in
        let within = counts-rows s (each k d inside) series some order in
        let ordered = counts-order series.from series.to k d inside in
        let one = exact-counts (of_rows (answered_count s) series) exact in
        pair (answered_count s series.from series.to) (sum_of_counts (of_rows (answered_count s) series)) (omega (arith, within.0, within.1, ordered, one))
        (omega (arith, within.0, within.1, ordered, one))

    pub exact-sum_rows : All (λ s. All (λ (i : ℤ × ℤ). i.0 ≡ i.1) (of_rows (answered_sum s) series)
        → answered_sum s series.from series.to ≡ sum_of_sums (of_rows (answered_sum s) series)) (state history)
    exact-sum_rows = λ k d inside exact.
        let s = get_or (state history) k d in
        let within = sums-rows s (each k d inside) series some order in
        let ordered = sums-order series.from series.to k d inside in
        let one = exact-sums (of_rows (answered_sum s) series) exact in
        pair (answered_sum s series.from series.to) (sum_of_sums (of_rows (answered_sum s) series)) (omega (arith, ints, within.0, within.1, ordered, one))
        (omega (arith, ints, within.0, within.1, ordered, one))
