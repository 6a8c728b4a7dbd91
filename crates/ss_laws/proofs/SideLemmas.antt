-- Two ranges side by side, and how each of them and the range of both splits a window.
use Rattle.std.specs.Prelude.{◌≡◌, ℕ, ◌+◌, ◌-◌, ◌<◌, ◌≤◌, max, min, Bool, true, false, nat_le, List, if◌then◌else◌}
use Rattle.std.proofs.Common.{ap, ap₂, arith, inl, inr, refl, sym, ◌∙◌}
use Rattle.std.proofs.lemmas.Bool.{cases_lt}
use Rattle.std.proofs.lemmas.Bool.Decides.{nat_tests}
use Rattle.ss_bounds.specs.Split.{SplitFigures, greatest_count, least_count}
use Rattle.ss_bounds.specs.Times.{lies_in, times_inside, times_outside}
use Rattle.ss_bounds.proofs.RangeLemmas.{times_inside-times, times_inside-times_outside}
use Rattle.ss_landmarks.specs.Free.{free, is_free}
use Rattle.ss_landmarks.specs.Landmark.{Landmark}
use Rattle.ss_landmarks.proofs.TimeLemmas.{free-add, free-le}
use Rattle.ss_model.proofs.MarkLemmas.{LiesFree}
use Rattle.ss_model.specs.Interval.{is_split, is_whole, split_figures}
use Rattle.ss_model.specs.declared.types.Window.{Window}
use Rattle.ss_summary.specs.Figures.{IsPossible}
use Rattle.ss_laws.proofs.FigureLemmas.{AreValues}

-- 1 for what is true
abbrev one_if : Bool → ℕ
one_if b = if b then 1 else 0

-- a window's figures, by how many of its ends and of its free times lie where
abbrev pub figures_of : Window → ℕ → ℕ → ℕ → SplitFigures
figures_of w e i o = record {
  count = w.summary.count;
  sum = w.summary.sum;
  min = w.summary.min;
  max = w.summary.max;
  ends = e;
  inside = i;
  outside = o;
}

pub figures-same : (w : Window) (e i o e' i' o' : ℕ) → e ≡ e' → i ≡ i' → o ≡ o' → figures_of w e i o ≡ figures_of w e' i' o'
figures-same w e i o e' i' o' ends inside outside = λ k. figures_of w (ends k) (inside k) (outside k)

-- a time after the middle lies in the range from there on as in the whole, and one up to it in the range up to there
pub in-later : (from mid to t : ℕ) → from ≤ mid → mid < t → lies_in (mid + 1) to t ≡ lies_in from to t
in-later from mid to t order late =
    let one : nat_le (mid + 1) t ≡ true = grind (arith, nat_tests) in
    let two : nat_le from t ≡ true = grind (arith, nat_tests) in
    rw (one, two) refl

pub in-earlier : (from mid to t : ℕ) → mid < to → t ≤ mid → lies_in from mid t ≡ lies_in from to t
in-earlier from mid to t order early =
    let one : nat_le t mid ≡ true = grind (arith, nat_tests) in
    let two : nat_le t to ≡ true = grind (arith, nat_tests) in
    rw (one, two) refl

pub out-later : (mid to t : ℕ) → t ≤ mid → lies_in (mid + 1) to t ≡ false
out-later mid to t early = grind (arith, nat_tests)

pub out-earlier : (from mid t : ℕ) → mid < t → lies_in from mid t ≡ false
out-earlier from mid t late = grind (arith, nat_tests)

one-most : (b : Bool) → one_if b ≤ 1
one-most true = omega arith
one-most false = omega arith

module _ (ls : List Landmark) (w : Window) (possible : IsPossible w.summary) (lies : LiesFree ls w) where
  -- a window whose first and last time differ has two values or more
  some-values : w.summary.t_first < w.summary.t_last → 2 ≤ w.summary.count
  some-values rising = elim (cases_lt 1 w.summary.count) [
    | inl more ↦ omega arith
    | inr less ↦ (let one = possible.one (omega (arith, possible.count_low)) in absurd (omega (arith, one)))
  ]

  -- there is a free time for each value between the first and the last
  room-between : w.summary.count - 2 ≤ free ls (w.summary.t_first + 1) (w.summary.t_last - 1)
  room-between = elim (cases_lt w.summary.t_first w.summary.t_last) [
    | inl rising ↦
        (let first = w.summary.t_first in
        let last = w.summary.t_last in
        let front = free-add ls first first last (omega arith) (omega arith) in
        let back = free-add ls (first + 1) (last - 1) last (omega arith) (omega arith) in
        let one = free-le ls first first in
        let other = free-le ls (last - 1 + 1) last in
        omega (arith, lies.few, front, back, one, other))
    | inr one ↦ omega (arith, possible.times)
  ]

  -- no more values must lie in a range than can
  pub split-order : (p q : ℕ) → least_count (split_figures (is_free ls) p q w) ≤ greatest_count (split_figures (is_free ls) p q w)
  split-order p q =
      omega (arith, room-between, times_inside-times_outside (is_free ls) p q w.summary.t_first w.summary.t_last)

module _ (ls : List Landmark) (from mid to : ℕ) (before : from ≤ mid) (after : mid < to) (w : Window) (possible : IsPossible w.summary)
    (lies : LiesFree ls w) where
  abbrev at : ℕ → ℕ → SplitFigures
  at p q = split_figures (is_free ls) p q w

  abbrev begin : ℕ
  begin = w.summary.t_first

  abbrev end : ℕ
  end = w.summary.t_last

  abbrev inside : ℕ → ℕ → ℕ
  inside p q = times_inside (is_free ls) p q begin end

  abbrev outside : ℕ → ℕ → ℕ
  outside p q = times_outside (is_free ls) p q begin end

  abbrev between : ℕ
  between = free ls (begin + 1) (end - 1)

  order : begin ≤ end
  order = omega (arith, possible.times, possible.count_low)

  inside-is : (p q : ℕ) → inside p q ≡ free ls (max (begin + 1) p) (min (end - 1) q)
  inside-is p q = times_inside-times (is_free ls) p q begin end

  both-is : (p q : ℕ) → inside p q + outside p q ≡ between
  both-is p q = times_inside-times_outside (is_free ls) p q begin end

  -- the range p..=q has of the window what the whole range has, and the other one has nothing
  pub record HasAll (p q p' q' : ℕ) : Type 0 where
    pub none_whole : is_whole p' q' w ≡ false
    pub none_split : is_split p' q' w ≡ false
    pub whole : is_whole p q w ≡ is_whole from to w
    pub split : is_split p q w ≡ is_split from to w
    pub figures : at p q ≡ at from to

  pub HasAll-later : mid < begin → HasAll (mid + 1) to from mid
  HasAll-later late =
      let low : max (begin + 1) (mid + 1) ≡ max (begin + 1) from = omega arith in
      let same : inside (mid + 1) to ≡ inside from to =
      inside-is (mid + 1) to ∙ ap (λ p. free ls p (min (end - 1) to)) low ∙ sym (inside-is from to) in
      let ordered = order in
      record {
        none_whole = grind (arith, nat_tests, late, ordered);
        none_split = grind (arith, nat_tests, late, ordered);
        whole = grind (arith, nat_tests, late, ordered, before);
        split = grind (arith, nat_tests, late, ordered, before);
        figures = figures-same w _ _ _ _ _ _
            (ap₂ (λ a b. one_if a + one_if b) (in-later from mid to begin before late) (in-later from mid to end before (omega arith)))
            same
            (omega (arith, same, both-is (mid + 1) to, both-is from to));
      }

  pub HasAll-earlier : end ≤ mid → HasAll from mid (mid + 1) to
  HasAll-earlier early =
      let high : min (end - 1) mid ≡ min (end - 1) to = omega arith in
      let same : inside from mid ≡ inside from to =
      inside-is from mid ∙ ap (λ q. free ls (max (begin + 1) from) q) high ∙ sym (inside-is from to) in
      let ordered = order in
      record {
        none_whole = grind (arith, nat_tests, early, ordered);
        none_split = grind (arith, nat_tests, early, ordered);
        whole = grind (arith, nat_tests, early, ordered, after);
        split = grind (arith, nat_tests, early, ordered, after);
        figures = figures-same w _ _ _ _ _ _
            (ap₂ (λ a b. one_if a + one_if b) (in-earlier from mid to begin after (omega arith)) (in-earlier from mid to end after early))
            same
            (omega (arith, same, both-is from mid, both-is from to));
      }

  -- both ranges split the window
  pub record IsCutBetween : Type 0 where
    pub first_end : ℕ
    pub second_end : ℕ
    pub ends : first_end + second_end ≤ 2
    pub room : w.summary.count - 2 ≤ inside from mid + inside (mid + 1) to + outside from to
    pub values : AreValues w.summary.count w.summary.sum w.summary.min w.summary.max
    pub first_whole : is_whole from mid w ≡ false
    pub first_split : is_split from mid w ≡ true
    pub second_whole : is_whole (mid + 1) to w ≡ false
    pub second_split : is_split (mid + 1) to w ≡ true
    pub first : at from mid ≡ figures_of w first_end (inside from mid) (outside from to + inside (mid + 1) to)
    pub second : at (mid + 1) to ≡ figures_of w second_end (inside (mid + 1) to) (outside from to + inside from mid)
    pub if_whole : is_whole from to w ≡ true → (first_end + second_end ≡ 2) × (outside from to ≡ 0)
    pub if_not : is_whole from to w ≡ false → is_split from to w ≡ true
    pub all : at from to ≡ figures_of w (first_end + second_end) (inside from mid + inside (mid + 1) to) (outside from to)

  inside-adds : begin ≤ mid → mid < end → inside from mid + inside (mid + 1) to ≡ inside from to
  inside-adds begun unended =
      let early : min (end - 1) mid ≡ mid = omega arith in
      let late : max (begin + 1) (mid + 1) ≡ mid + 1 = omega arith in
      let one : inside from mid ≡ free ls (max (begin + 1) from) mid =
      inside-is from mid ∙ ap (λ q. free ls (max (begin + 1) from) q) early in
      let two : inside (mid + 1) to ≡ free ls (mid + 1) (min (end - 1) to) =
      inside-is (mid + 1) to ∙ ap (λ p. free ls p (min (end - 1) to)) late in
      let both = free-add ls (max (begin + 1) from) mid (min (end - 1) to) (omega arith) (omega arith) in
      omega (arith, one, two, both, inside-is from to)

  -- where all of it lies in both together, both its ends do, and no time is outside
  both-ends : begin ≤ mid → mid < end → is_whole from to w ≡ true → one_if (lies_in from mid begin) + one_if (lies_in (mid + 1) to end) ≡ 2
  both-ends begun unended all =
      let low : from ≤ begin = grind (arith, nat_tests, all) in
      let high : end ≤ to = grind (arith, nat_tests, all) in
      let one : lies_in from mid begin ≡ true = grind (arith, nat_tests, low, begun) in
      let two : lies_in (mid + 1) to end ≡ true = grind (arith, nat_tests, high, unended) in
      rw (one, two) (omega arith)

  none-outside : is_whole from to w ≡ true → outside from to ≡ 0
  none-outside all =
      let low : from ≤ begin = grind (arith, nat_tests, all) in
      let high : end ≤ to = grind (arith, nat_tests, all) in
      let first : max (begin + 1) from ≡ begin + 1 = omega arith in
      let last : min (end - 1) to ≡ end - 1 = omega arith in
      let every : inside from to ≡ between = inside-is from to ∙ ap₂ (λ p q. free ls p q) first last in
      omega (arith, every, both-is from to)

  pub IsCutBetween-cut : begin ≤ mid → mid < end → IsCutBetween
  IsCutBetween-cut begun unended =
      let more : 2 ≤ w.summary.count = some-values ls w possible lies (omega arith) in
      let adds = inside-adds begun unended in
      let no_first = out-later mid to begin begun in
      let no_second = out-earlier from mid end unended in
      record {
        first_end = one_if (lies_in from mid begin);
        second_end = one_if (lies_in (mid + 1) to end);
        ends = omega (arith, one-most (lies_in from mid begin), one-most (lies_in (mid + 1) to end));
        room = omega (arith, adds, both-is from to, room-between ls w possible lies);
        values = record { more = more; order = possible.order; sum_low = possible.sum_low; sum_high = possible.sum_high };
        first_whole = grind (arith, nat_tests, begun, unended);
        first_split = grind (arith, nat_tests, begun, unended, before);
        second_whole = grind (arith, nat_tests, begun, unended);
        second_split = grind (arith, nat_tests, begun, unended, after);
        first = figures-same w _ _ _ _ _ _ (rw no_second (omega arith)) refl (omega (arith, adds, both-is from mid, both-is from to));
        second = figures-same w _ _ _ _ _ _ (rw no_first (omega arith)) refl (omega (arith, adds, both-is (mid + 1) to, both-is from to));
        if_whole = λ every. (both-ends begun unended every, none-outside every);
        if_not = λ not_all. grind (arith, nat_tests, not_all, begun, unended, before, after);
        all = figures-same w _ _ _ _ _ _
            (ap₂ (λ a b. one_if a + one_if b) (sym (in-earlier from mid to begin after begun)) (sym (in-later from mid to end before unended)))
            (sym adds) refl;
      }
