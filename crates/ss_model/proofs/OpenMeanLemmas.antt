-- It is left open whether there is a mean by one window alone, which holds the whole range between two of its times.
use Rattle.ss_model.proofs.Common.{ℤ, ◌+ℤ◌, ap, arith, refl, subst, inl, inr, cases_Bool, cases_lt, nat_tests, sum_by-cons}
use Rattle.ss_model.proofs.Common.{Point, asked, is_free, is_split, is_whole, marked_values, split_figures}
use Rattle.ss_model.proofs.Common.{split_windows, total, IsStream, StandFrom, Stream, Window}
use Rattle.std.specs.Prelude.{◌≡◌, ◌⊎◌, ℕ, ◌+◌, ◌<◌, Bool, true, false, ◌&&◌, ◌||◌, not, nat_le, nat_lt, List, [], ◌∷◌, length, map, pos, sum_by}
use Rattle.std.specs.List.{filter}
use Rattle.ss_bounds.specs.declared.fraction.Fraction.{Fraction}
use Rattle.ss_bounds.specs.declared.mean.Mean.TheVariants.{Maybe}
use Rattle.ss_bounds.specs.Guess.{AreAllSplit}
use Rattle.ss_bounds.specs.Means.{mean_interval}
use Rattle.ss_bounds.specs.Split.{least_count}
use Rattle.ss_bounds.specs.Times.{ends_in, lies_in}
use Rattle.ss_bounds.proofs.BestLemmas.{fraction-is}
use Rattle.ss_bounds.proofs.MeanGuessLemmas.{mean_interval-alone, mean_interval-maybe, nothing_known}
use Rattle.ss_model.specs.Interval.{IsExactMean, interval_of_mean, known_count, known_values, whole_windows}
use Rattle.ss_model.specs.OpenMeans.{IsOpenByOne}
use Rattle.ss_model.proofs.MeanLemmas.{mean-exact}
use Rattle.ss_model.proofs.SplitLemmas.{AreAllSplit-stream, Lies, lies}

-- a window of which neither end lies in the range, but some of whose times may, ends after it
ends-after : (from to first last : ℕ) → Lies from to first last → ends_in from to first last ≡ 0 → to < last
ends-after from to first last place none = elim (cases_lt to last) [
  | inl after ↦ after
  | inr in_range ↦
      (let one = place.ends in
      let is : lies_in from to last ≡ true = grind (arith, nat_tests) in
      let none = rw is at none in
      absurd (omega arith))
]

-- a window that begins after the range isn't split by it
not-split : (from to first last : ℕ) → to < first → (not (nat_le from first && nat_le last to) && not (nat_lt last from || nat_lt to first)) ≡ false
not-split from to first last after = let is : nat_lt to first ≡ true = grind (arith, nat_tests) in grind (arith, nat_tests)

none-after : (from to first time : ℕ) (ws : List Window) → StandFrom first time ws → to < time → filter (is_split from to) ws ≡ []
none-after from to first time [] stand after = refl
none-after from to first time (w ∷ ws) stand after =
    let place = stand.2 in
    let possible = stand.1 in
    let rest = none-after from to (first + w.summary.count) (w.summary.t_last + 1) ws stand.3 (omega (arith, possible.count_low, possible.times)) in
    let is = not-split from to w.summary.t_first w.summary.t_last (omega arith) in
    rw is rest

-- where no split window has a value in the range for sure, there is one at most
one-at_most : (free : ℕ → Bool) (from to first time : ℕ) (ws : List Window) → StandFrom first time ws
    → sum_by least_count (split_windows free from to ws) ≡ 0
    → (filter (is_split from to) ws ≡ []) ⊎ ((w : Window) × (filter (is_split from to) ws ≡ w ∷ []))
one-at_most free from to first time [] stand none = inl refl
one-at_most free from to first time (w ∷ ws) stand none = elim (cases_Bool (is_split from to w)) [
  | inl is ↦
      (let none = rw is at none in
      let parts = sum_by-cons least_count (split_figures free from to w) (split_windows free from to ws) in
      let after = ends-after from to w.summary.t_first w.summary.t_last (lies from to w.summary.t_first w.summary.t_last is) (omega (arith, none, parts)) in
      let rest = none-after from to (first + w.summary.count) (w.summary.t_last + 1) ws stand.3 (omega arith) in
      inr (w, rw is (ap (λ l. w ∷ l) rest)))
  | inr not_is ↦ (let none = rw not_is at none in rw not_is (one-at_most free from to (first + w.summary.count) (w.summary.t_last + 1) ws stand.3 none))
]

-- windows without values are none
none-whole : (from to first time : ℕ) (ws : List Window) → StandFrom first time ws
    → sum_by (λ (w : Window). w.summary.count) (whole_windows from to ws) ≡ 0 → whole_windows from to ws ≡ []
none-whole from to first time [] stand none = refl
none-whole from to first time (w ∷ ws) stand none = elim (cases_Bool (is_whole from to w)) [
  | inl is ↦
      (let none = rw is at none in
      let possible = stand.1 in
      let parts = sum_by-cons (λ (v : Window). v.summary.count) w (whole_windows from to ws) in
      absurd (omega (arith, none, parts, possible.count_low)))
  | inr not_is ↦ (let none = rw not_is at none in rw not_is (none-whole from to (first + w.summary.count) (w.summary.t_last + 1) ws stand.3 none))
]

no-values : (values : List ℤ) → length values ≡ 0 → values ≡ []
no-values [] none = refl
no-values (v ∷ values) none = cc

nothing-known : (from to first time : ℕ) (ws : List Window) (marked : List Point) → StandFrom first time ws → known_count from to ws marked ≡ 0
    → known_values from to ws marked ≡ nothing_known
nothing-known from to first time ws marked stand none =
    let whole = none-whole from to first time ws stand (omega (arith, none)) in
    let values = no-values (asked from to marked) (omega (arith, none)) in
    let sum : (total (map (λ (w : Window). w.summary.sum) (whole_windows from to ws)) +ℤ total (asked from to marked)) ≡ pos 0 = rw (whole, values) refl in
    fraction-is (known_values from to ws marked) nothing_known sum none

pub open-by_one : (s : Stream) (from to : ℕ) (lo hi : Fraction) → IsStream s
    → interval_of_mean (is_free s.landmarks) from to s.windows (marked_values s.landmarks) ≡ Maybe lo hi
    → IsOpenByOne from to s.windows (marked_values s.landmarks) lo hi
open-by_one s from to lo hi is maybe =
    let free = is_free s.landmarks in
    let marked = marked_values s.landmarks in
    let stand = is.windows.stand in
    let splits = split_windows free from to s.windows in
    let many = mean_interval-maybe (known_values from to s.windows marked) splits lo hi maybe in
    let alone : known_count from to s.windows marked ≡ 0 = omega (arith, many) in
    elim (one-at_most free from to 1 0 s.windows stand (omega (arith, many))) [
      | inl none ↦
          (let unsplit : splits ≡ [] = ap (map (split_figures free from to)) none in
          absurd (subst IsExactMean maybe (mean-exact free from to s.windows marked unsplit)))
      | inr (w, one) ↦
          (let figures : splits ≡ split_figures free from to w ∷ [] = ap (map (split_figures free from to)) one in
          let split = subst AreAllSplit figures (AreAllSplit-stream s from to is) in
          let fewest = subst (λ l. sum_by least_count l ≡ 0) figures (omega (arith, many)) in
          let parts = sum_by-cons least_count (split_figures free from to w) [] in
          let maybe = subst (λ l. mean_interval (known_values from to s.windows marked) l ≡ Maybe lo hi) figures maybe in
          let maybe = subst (λ k. mean_interval k (split_figures free from to w ∷ []) ≡ Maybe lo hi)
          (nothing-known from to 1 0 s.windows marked stand alone) maybe in
          let ends = mean_interval-alone (split_figures free from to w) lo hi split.0 (omega (arith, fewest, parts)) maybe in
          record { window = w; split = one; alone = alone; least = ends.0; greatest = ends.1 })
    ]
