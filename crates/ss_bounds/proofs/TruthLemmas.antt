-- What is true of the values of a window that lie in the range.
use Rattle.std.specs.Prelude.{◌≡◌, ℕ, ◌+◌, ◌-◌, ◌≤◌, Bool, true, false, not, if◌then◌else◌, ℤ, pos, ◌+ℤ◌, ◌*ℤ◌, ◌≤ℤ◌, List, [], ◌∷◌, length}
use Rattle.std.specs.List.{filter}
use Rattle.std.proofs.Common.{ap, arith, refl, sym, ◌∙◌}
use Rattle.std.proofs.lemmas.Int.{ints, clamps}
use Rattle.ss_summary.specs.Points.{Point}
use Rattle.ss_bounds.specs.Split.{SplitFigures, least_count, greatest_count, low_sum, high_sum, sum_interval}
use Rattle.ss_bounds.specs.MeanTruth.{MayHave}
use Rattle.ss_bounds.specs.Times.{lies_in}
use Rattle.ss_bounds.specs.Truth.{total, values_alone, asked, RiseFree, AllBetween, AreSplit, MayLieThere}
use Rattle.ss_bounds.proofs.TimeLemmas.{asked-counts}
use Rattle.ss_bounds.proofs.LeastLemmas.{least_of-at_most, greatest_of-at_least}

-- the sum of values from m to M
total-above : (m M : ℤ) (vs : List ℤ) → AllBetween m M vs → (pos (length vs) *ℤ m) ≤ℤ total vs
total-above m M [] between = omega (arith, ints)
total-above m M (v ∷ vs) between = let rest = total-above m M vs between.2 in omega (arith, ints)

total-below : (m M : ℤ) (vs : List ℤ) → AllBetween m M vs → total vs ≤ℤ (pos (length vs) *ℤ M)
total-below m M [] between = omega (arith, ints)
total-below m M (v ∷ vs) between = let rest = total-below m M vs between.2 in omega (arith, ints)

-- values at rising free times are each between m and M, also those that pass a test
between-next : (m M : ℤ) (p : Point) (ps : List Point) → m ≤ℤ p.1 → p.1 ≤ℤ M → AllBetween m M (values_alone ps)
    → (b : Bool) → AllBetween m M (values_alone (if b then p ∷ ps else ps))
between-next m M p ps low high rest true = (low, high, rest)
between-next m M p ps low high rest false = rest

between-filter : (free : ℕ → Bool) (m M : ℤ) (test : Point → Bool) (start : ℕ) (values : List Point)
    → RiseFree free m M start values → AllBetween m M (values_alone (filter test values))
between-filter free m M test start [] rising = tt
between-filter free m M test start (p ∷ ps) rising =
    between-next m M p (filter test ps) rising.2 rising.3 (between-filter free m M test (p.0 + 1) ps rising.4) (test p)

-- the values that pass a test and those that don't are all of them
parted-next : (p : Point) (in_them not_in_them : List Point) (b : Bool)
    → (length (values_alone (if b then p ∷ in_them else in_them)) + length (values_alone (if not b then p ∷ not_in_them else not_in_them))
    ≡ 1 + (length (values_alone in_them) + length (values_alone not_in_them)))
    × ((total (values_alone (if b then p ∷ in_them else in_them)) +ℤ total (values_alone (if not b then p ∷ not_in_them else not_in_them)))
    ≡ (p.1 +ℤ (total (values_alone in_them) +ℤ total (values_alone not_in_them))))
parted-next p in_them not_in_them true = (omega arith, omega (arith, ints))
parted-next p in_them not_in_them false = (omega arith, omega (arith, ints))

parted : (test : Point → Bool) (values : List Point)
    → (length (values_alone (filter test values)) + length (values_alone (filter (λ p. not (test p)) values)) ≡ length values)
    × ((total (values_alone (filter test values)) +ℤ total (values_alone (filter (λ p. not (test p)) values))) ≡ total (values_alone values))
parted test [] = (refl, refl)
parted test (p ∷ ps) =
    let rest = parted test ps in
    let next = parted-next p (filter test ps) (filter (λ p. not (test p)) ps) (test p) in
    (omega (arith, rest.0, next.0), omega (arith, ints, rest.1, next.1))

-- the least and the greatest sum are those at some number of values
pub sum_interval-at : (s : SplitFigures) (x : ℕ) → least_count s ≤ x → x ≤ greatest_count s
    → ((sum_interval s).0 ≤ℤ low_sum s x) × (high_sum s x ≤ℤ (sum_interval s).1)
unfolding sum_interval
sum_interval-at s x low high =
    let place : least_count s + (x - least_count s) ≡ x = omega arith in
    let at = least_of-at_most (low_sum s) (least_count s) (greatest_count s - least_count s) (x - least_count s) (omega arith) in
    let up = greatest_of-at_least (high_sum s) (least_count s) (greatest_count s - least_count s) (x - least_count s) (omega arith) in
    (rw place at at, rw place at up)

-- values inside the range and outside it, and the figures that they make together
sum-at : (s : SplitFigures) (inside outside : List ℤ) → s.count ≡ length inside + length outside
    → s.sum ≡ (total inside +ℤ total outside) → AllBetween s.min s.max inside → AllBetween s.min s.max outside
    → (low_sum s (length inside) ≤ℤ total inside) × (total inside ≤ℤ high_sum s (length inside))
sum-at s inside outside count sum in_between out_between =
    let others : s.count - length inside ≡ length outside = omega arith in
    let above = total-above s.min s.max inside in_between in
    let below = total-below s.min s.max inside in_between in
    let out_above = total-above s.min s.max outside out_between in
    let out_below = total-below s.min s.max outside out_between in
    (rw others (omega (arith, ints, clamps)), rw others (omega (arith, ints, clamps)))

module _ (free : ℕ → Bool) (from to : ℕ) (p : Point) (ps : List Point) (s : SplitFigures) (split : AreSplit free from to p ps s) where
  pub asked-MayLieThere : MayLieThere s (asked from to (p ∷ ps))
  asked-MayLieThere =
      let counts = asked-counts free from to p ps s split in
      record {
        fewest = counts.0;
        most = counts.1;
        between = between-filter free s.min s.max (λ v. lies_in from to v.0) 0 (p ∷ ps) split.rising;
      }

  pub asked-MayHave : MayHave s (record { over = total (asked from to (p ∷ ps)); under = length (asked from to (p ∷ ps)) })
  asked-MayHave =
      let values = asked-MayLieThere in
      let parts = parted (λ v. lies_in from to v.0) (p ∷ ps) in
      let count = ap (λ (f : SplitFigures). f.count) split.is in
      let sum = ap (λ (f : SplitFigures). f.sum) split.is in
      let sums = sum-at s (asked from to (p ∷ ps)) (values_alone (filter (λ v. not (lies_in from to v.0)) (p ∷ ps)))
      (count ∙ sym parts.0) (sum ∙ sym parts.1) values.between
      (between-filter free s.min s.max (λ v. not (lies_in from to v.0)) 0 (p ∷ ps) split.rising) in
      record { fewest = values.fewest; most = values.most; low = sums.0; high = sums.1 }

  pub asked-sum : ((sum_interval s).0 ≤ℤ total (asked from to (p ∷ ps))) × (total (asked from to (p ∷ ps)) ≤ℤ (sum_interval s).1)
  asked-sum =
      let values = asked-MayHave in
      let at = sum_interval-at s (length (asked from to (p ∷ ps))) values.fewest values.most in
      (omega (arith, ints, at.0, values.low), omega (arith, ints, at.1, values.high))
