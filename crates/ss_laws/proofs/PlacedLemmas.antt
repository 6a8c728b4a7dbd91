-- What `placed` makes of a window that a range splits: other values of the same summary.
use Rattle.std.specs.Prelude.{◌≡◌, ℕ, suc, ◌+◌, ◌-◌, ◌<◌, ◌≤◌, Bool, true, false, ◌&&◌, not, ℤ, ◌+ℤ◌, List, [], ◌∷◌, ◌++◌, length, take, drop, Contains}
use Rattle.std.specs.List.{count_by, range_with_len}
use Rattle.std.proofs.Common.{ap, ap₂, arith, refl, sym, ◌∙◌, subst, append_assoc}
use Rattle.std.proofs.lemmas.List.{append-nil, drop_all, length-append, length-drop, length-take, take-append-drop}
use Rattle.ss_summary.specs.Figures.{unfiltered}
use Rattle.ss_summary.specs.Filters.{full}
use Rattle.ss_summary.specs.Summaries.{summary_of, time_at_end}
use Rattle.ss_summary.specs.Summaries as summaries
use Rattle.ss_summary.proofs.SummaryLemmas.{time_at_end-append}
use Rattle.ss_bounds.specs.Times.{lies_in, ends_in, split_of, times}
use Rattle.ss_bounds.specs.Truth.{AllBetween, total}
use Rattle.ss_bounds.proofs.TimeLemmas.{count_by-cons}
use Rattle.ss_summary.specs.Points.{Point, New}
use Rattle.ss_model.specs.Truth.{RiseAtFree}
use Rattle.ss_model.specs.declared.types.Window.{Window}
use Rattle.ss_model.proofs.IntervalLemmas.{AreOf}
use Rattle.ss_laws.specs.Rebuilt.{one_if, at_time, placed_at_times, placed}
use Rattle.ss_laws.specs.Sides.{Sides, FitSplit}
use Rattle.ss_laws.proofs.PickedLemmas.{picked, left, picked-append, picked-at_true, picked-at_false, picked-parts, extremes-from_parts}
use Rattle.ss_laws.proofs.FilledLemmas.{count_beyond, count_within, one_if-not, one-value, picked-placed_at_times, left-placed_at_times}
use Rattle.ss_laws.proofs.FilledLemmas.{RiseAtFree-placed_at_times}

-- what the last time takes of both sides
abbrev rest_of : Bool → List ℤ → List ℤ → List ℤ
rest_of l inside outside = drop (length inside - one_if l) inside ++ drop (length outside - one_if (not l)) outside

drop_none : (vs : List ℤ) → drop (length vs - 0) vs ≡ []
drop_none vs = drop_all (length vs - 0) vs (omega arith)

-- a time that is free takes one value of its side, where there is one
length-first : (f l : Bool) (inside outside : List ℤ) → f ≡ true → one_if l ≤ length inside → one_if (not l) ≤ length outside
    → length (take (one_if (f && l)) inside ++ take (one_if (f && not l)) outside) ≡ 1
length-first true l inside outside is some_inside some_outside =
    omega (
      arith,
      length-append (take (one_if l) inside) (take (one_if (not l)) outside),
      length-take (one_if l) inside,
      length-take (one_if (not l)) outside,
      one_if-not l,
    )
length-first false l inside outside is some_inside some_outside = cc

length-last : (l : Bool) (inside outside : List ℤ) → one_if l ≤ length inside → one_if (not l) ≤ length outside
    → length (rest_of l inside outside) ≡ 1
length-last l inside outside some_inside some_outside =
    let i = length inside - one_if l in
    let o = length outside - one_if (not l) in
    omega (arith, length-append (drop i inside) (drop o outside), length-drop i inside, length-drop o outside, one_if-not l)

module _ (free : ℕ → Bool) (from to : ℕ) where
  picked-last : (l : Bool) (t : ℕ) (inside outside : List ℤ) → lies_in from to t ≡ l
      → (picked (lies_in from to) (at_time t (rest_of l inside outside)) ≡ drop (length inside - one_if l) inside)
      × (left (lies_in from to) (at_time t (rest_of l inside outside)) ≡ drop (length outside - one_if (not l)) outside)
  picked-last true t inside outside is =
      let none = drop_none outside in
      let all = drop (length inside - 1) inside in
      let same : all ++ drop (length outside - 0) outside ≡ all = ap (λ z. all ++ z) none ∙ append-nil all in (
        ap (λ z. picked (lies_in from to) (at_time t z)) same ∙ picked-at_true (lies_in from to) t all is,
        picked-at_false (λ u. not (lies_in from to u)) t (all ++ drop (length outside - 0) outside) (ap not is) ∙ sym none,
      )
  picked-last false t inside outside is =
      let none = drop_none inside in
      let all = drop (length outside - 1) outside in
      let same : drop (length inside - 0) inside ++ all ≡ all = ap (λ z. z ++ all) none in (
        picked-at_false (lies_in from to) t (drop (length inside - 0) inside ++ all) is ∙ sym none,
        ap (λ z. left (lies_in from to) (at_time t z)) same ∙ picked-at_true (λ u. not (lies_in from to u)) t all (ap not is),
      )

-- of the times before the last one, the first and those that lie strictly between
count_by-from_first : (free side : ℕ → Bool) (first last : ℕ) → first < last → free first ≡ true
    → count_by (λ t. free t && side t) (range_with_len first (last - first))
    ≡ one_if (side first) + times (λ t. free t && side t) (first + 1) (last - 1)
count_by-from_first free side first last before is_first =
    let more : last - first ≡ suc (last - (first + 1)) = omega arith in
    let same : last - 1 + 1 - (first + 1) ≡ last - (first + 1) = omega arith in
    let behind = range_with_len (first + 1) (last - (first + 1)) in
    rw (more, same) (count_by-cons (λ t. free t && side t) first behind
    ∙ ap (λ f. one_if (f && side first) + count_by (λ t. free t && side t) behind) is_first)

-- values of a window from its first time to a later one, whose figures are these as the range splits it
module _ (free : ℕ → Bool) (from to first last count : ℕ) (sum m M : ℤ) (v : Sides) (before : first < last) (is_first : free first ≡ true)
    (is_last : free last ≡ true) (some : 2 ≤ count) (one_end : ends_in from to first last ≤ 1)
    (fit : FitSplit (split_of free from to count sum m M first last) v) where
  abbrev i : ℕ
  i = length v.inside - one_if (lies_in from to last)

  abbrev o : ℕ
  o = length v.outside - one_if (not (lies_in from to last))

  abbrev all : List Point
  all = placed free from to first last v

  -- there is a time for each value, and a value for each end
  record HasRoom : Type 0 where
    inside : length (take i v.inside) ≤ count_within free from to (range_with_len first (last - first))
    outside : length (take o v.outside) ≤ count_beyond free from to (range_with_len first (last - first))
    first_inside : one_if (lies_in from to first) ≤ length (take i v.inside)
    first_outside : one_if (not (lies_in from to first)) ≤ length (take o v.outside)
    last_inside : one_if (lies_in from to last) ≤ length v.inside
    last_outside : one_if (not (lies_in from to last)) ≤ length v.outside

  has_room : HasRoom
  has_room =
      let in_first = one_if-not (lies_in from to first) in
      let in_last = one_if-not (lies_in from to last) in
      let within = count_by-from_first free (lies_in from to) first last before is_first in
      let beyond = count_by-from_first free (λ t. not (lies_in from to t)) first last before is_first in
      let taken_in = length-take i v.inside in
      let taken_out = length-take o v.outside in
      let fewest = fit.fewest in
      let most = fit.most in
      let number = fit.number in
      record {
        inside = omega arith;
        outside = omega arith;
        first_inside = omega arith;
        first_outside = omega arith;
        last_inside = omega arith;
        last_outside = omega arith;
      }

  pub picked-placed : picked (lies_in from to) all ≡ v.inside
  picked-placed =
      let ts = range_with_len first (last - first) in
      picked-append (lies_in from to) (placed_at_times free from to ts (take i v.inside) (take o v.outside))
      (at_time last (drop i v.inside ++ drop o v.outside))
      ∙ ap₂ (λ x y. x ++ y) (picked-placed_at_times free from to ts (take i v.inside) (take o v.outside) has_room.inside)
      (picked-last free from to (lies_in from to last) last v.inside v.outside refl).0
      ∙ take-append-drop i v.inside

  pub left-placed : left (lies_in from to) all ≡ v.outside
  left-placed =
      let ts = range_with_len first (last - first) in
      picked-append (λ t. not (lies_in from to t)) (placed_at_times free from to ts (take i v.inside) (take o v.outside))
      (at_time last (drop i v.inside ++ drop o v.outside))
      ∙ ap₂ (λ x y. x ++ y) (left-placed_at_times free from to ts (take i v.inside) (take o v.outside) has_room.outside)
      (picked-last free from to (lies_in from to last) last v.inside v.outside refl).1
      ∙ take-append-drop o v.outside

  -- the first of these values, and those between it and the last one
  starts : (x : ℤ) × (between : List Point)
      × (placed_at_times free from to (range_with_len first (last - first)) (take i v.inside) (take o v.outside) ≡ (first, x, New) ∷ between)
  starts =
      let k = one_if (free first && lies_in from to first) in
      let l = one_if (free first && not (lies_in from to first)) in
      let more : last - first ≡ suc (last - (first + 1)) = omega arith in
      let behind = placed_at_times free from to (range_with_len (first + 1) (last - (first + 1))) (drop k (take i v.inside)) (drop l (take o v.outside)) in
      let head = one-value (take k (take i v.inside) ++ take l (take o v.outside))
      (length-first (free first) (lies_in from to first) (take i v.inside) (take o v.outside) is_first has_room.first_inside has_room.first_outside) in (
        head.0,
        behind,
        ap (λ n. placed_at_times free from to (range_with_len first n) (take i v.inside) (take o v.outside)) more
            ∙ ap (λ vs. at_time first vs ++ behind) head.1,
      )

  ends : (y : ℤ) × (drop i v.inside ++ drop o v.outside ≡ y ∷ [])
  ends = one-value (drop i v.inside ++ drop o v.outside)
      (length-last (lies_in from to last) v.inside v.outside has_room.last_inside has_room.last_outside)

  pub RiseAtFree-placed : (rest : List Point) → RiseAtFree free (last + 1) rest → RiseAtFree free first (all ++ rest)
  RiseAtFree-placed rest rising =
      let ts = range_with_len first (last - first) in
      let front = placed_at_times free from to ts (take i v.inside) (take o v.outside) in
      let back = at_time last (drop i v.inside ++ drop o v.outside) in
      let end : first + (last - first) ≡ last = omega arith in
      let behind : RiseAtFree free last (back ++ rest) =
      subst (λ vs. RiseAtFree free last (at_time last vs ++ rest)) (sym ends.1) (omega arith, is_last, rising) in
      subst (RiseAtFree free first) (sym (append_assoc front back rest))
      (RiseAtFree-placed_at_times free from to (last - first) first (take i v.inside) (take o v.outside) (back ++ rest)
      (subst (λ z. RiseAtFree free z (back ++ rest)) (sym end) behind))

  -- the first value, and all behind it
  shape-placed : (p : Point) × (ps : List Point) × (all ≡ p ∷ ps) × (p.0 ≡ first) × (time_at_end p.0 ps ≡ last)
  shape-placed = (
    (first, starts.0, New),
    starts.1 ++ (last, ends.0, New) ∷ [],
    ap₂ (λ xs ys. xs ++ at_time last ys) starts.2 ends.1,
    refl,
    time_at_end-append first starts.1 (last, ends.0, New) [],
  )

  pub summary_of-placed : unfiltered (summary_of all)
      ≡ record { count = count; sum = sum; min = m; max = M; t_first = first; t_last = last; filter = full }
  summary_of-placed =
      let p = shape-placed.0 in
      let ps = shape-placed.1 in
      let inside : picked (lies_in from to) (p ∷ ps) ≡ v.inside = ap (picked (lies_in from to)) (sym shape-placed.2) ∙ picked-placed in
      let outside : left (lies_in from to) (p ∷ ps) ≡ v.outside = ap (left (lies_in from to)) (sym shape-placed.2) ∙ left-placed in
      let parts = picked-parts (lies_in from to) (p ∷ ps) in
      let number = ap₂ (λ xs ys. length xs + length ys) inside outside in
      let sums = ap₂ (λ xs ys. total xs +ℤ total ys) inside outside in
      let extremes = extremes-from_parts (lies_in from to) p ps m M
      (subst (AllBetween m M) (sym inside) fit.inside_between)
      (subst (AllBetween m M) (sym outside) fit.outside_between)
      (subst (λ vs. Contains vs m) (sym (ap₂ (λ xs ys. xs ++ ys) inside outside)) fit.least)
      (subst (λ vs. Contains vs M) (sym (ap₂ (λ xs ys. xs ++ ys) inside outside)) fit.greatest) in
      let count_is : length (p ∷ ps) ≡ count = sym parts.0 ∙ number ∙ fit.number in
      let sum_is : summaries.total (p ∷ ps) ≡ sum = sym parts.1 ∙ sums ∙ fit.sum in
      ap (λ values. unfiltered (summary_of values)) shape-placed.2
      ∙ (λ k. record {
        count = count_is k;
        sum = sum_is k;
        min = extremes.0 k;
        max = extremes.1 k;
        t_first = shape-placed.3 k;
        t_last = shape-placed.4 k;
        filter = full;
      })

  -- a window of this summary is of these values
  pub AreOf-placed : (w : Window) (ws : List Window) (rest : List Point)
      → unfiltered w.summary ≡ record { count = count; sum = sum; min = m; max = M; t_first = first; t_last = last; filter = full }
      → AreOf ws rest → AreOf (w ∷ ws) (all ++ rest)
  AreOf-placed w ws rest is of = (
    shape-placed.0,
    shape-placed.1,
    rest,
    ap (λ xs. xs ++ rest) shape-placed.2,
    is ∙ sym summary_of-placed ∙ ap (λ values. unfiltered (summary_of values)) shape-placed.2,
    of,
  )
