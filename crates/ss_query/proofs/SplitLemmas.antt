-- A window that lies free among landmarks, and that a range splits: its figures, by counts of free times.
use Rattle.std.proofs.Common.{◌≡◌, ◌∙◌, ℕ, ◌+◌, ◌-◌, ◌≤◌, max, min, List, sym, ap₂, arith, IsTrue}
use Rattle.std.specs.Prelude.{ℤ}
use Rattle.ss_bounds.specs.Split.{IsSplit, SplitFigures}
use Rattle.ss_bounds.specs.Times.{ends_in, times_inside, times_outside}
use Rattle.ss_bounds.proofs.RangeLemmas.{times_inside-times, times_inside-times_outside}
use Rattle.ss_landmarks.specs.Free.{free, is_free}
use Rattle.ss_landmarks.specs.Landmark.{Landmark}
use Rattle.ss_model.specs.Interval.{is_split, split_figures}
use Rattle.ss_model.specs.Marks.{lies_free}
use Rattle.ss_model.specs.declared.types.Window.{Window}
use Rattle.ss_model.proofs.SplitLemmas.{IsSplit-window}
use Rattle.ss_summary.specs.Figures.{Figures, IsPossible}

module _ (landmarks : List Landmark) (from to : ℕ) where
  -- the free times of the range between two times
  pub times_inside-free : (first last begin end : ℕ) → begin ≡ max from (first + 1) → end ≡ min to (last - 1) →
      free landmarks begin end ≡ times_inside (is_free landmarks) from to first last
  times_inside-free first last begin end begins ends =
      let later : begin ≡ max (first + 1) from = omega (arith, begins) in
      let earlier : end ≡ min (last - 1) to = omega (arith, ends) in
      ap₂ (λ p q. free landmarks p q) later earlier ∙ sym (times_inside-times (is_free landmarks) from to first last)

  -- those outside it are the others
  pub free-parted : (first last : ℕ) →
      times_inside (is_free landmarks) from to first last + times_outside (is_free landmarks) from to first last ≡ free landmarks (first + 1) (last - 1)
  free-parted first last = times_inside-times_outside (is_free landmarks) from to first last

figures-same : (count : ℕ) (sum sum' least least' greatest greatest' : ℤ) (ends ends' inside inside' outside outside' : ℕ) →
    sum ≡ sum' → least ≡ least' → greatest ≡ greatest' → ends ≡ ends' → inside ≡ inside' → outside ≡ outside' →
    ◌≡◌ {A = SplitFigures} (record { count = count; sum = sum; min = least; max = greatest; ends = ends; inside = inside; outside = outside })
    (record { count = count; sum = sum'; min = least'; max = greatest'; ends = ends'; inside = inside'; outside = outside' })
figures-same count sum sum' least least' greatest greatest' ends ends' inside inside' outside outside' p q r s t u = λ i. record {
  count = count;
  sum = p i;
  min = q i;
  max = r i;
  ends = s i;
  inside = t i;
  outside = u i;
}

-- the figures of a split window, by those of its summary
module _ (landmarks : List Landmark) (from to : ℕ) (w : Window) (f : Figures) (sum least greatest : ℤ) (ends inside between : ℕ) (same : f ≡ w.summary)
    (sum_is : sum ≡ f.sum) (least_is : least ≡ f.min) (greatest_is : greatest ≡ f.max) (ends_is : ends ≡ ends_in from to f.t_first f.t_last)
    (inside_is : inside ≡ times_inside (is_free landmarks) from to f.t_first f.t_last)
    (between_is : between ≡ free landmarks (f.t_first + 1) (f.t_last - 1)) where
  pub inside-most : inside ≤ between
  inside-most = let all = free-parted landmarks from to f.t_first f.t_last in omega (arith, all, inside_is, between_is)

  pub split_figures-is : ◌≡◌ {A = SplitFigures} (record {
    count = f.count;
    sum = sum;
    min = least;
    max = greatest;
    ends = ends;
    inside = inside;
    outside = between - inside;
  }) (split_figures (is_free landmarks) from to w)
  split_figures-is =
      let all = free-parted landmarks from to f.t_first f.t_last in
      let outside : between - inside ≡ times_outside (is_free landmarks) from to f.t_first f.t_last = omega (arith, all, inside_is, between_is) in
      rw (← same) (figures-same f.count sum f.sum least f.min greatest f.max ends _ inside _ _ _ sum_is least_is greatest_is ends_is inside_is outside)

  pub IsSplit-figures : IsTrue (is_split from to w) → IsTrue (lies_free landmarks w) → IsPossible f → IsSplit (record {
    count = f.count;
    sum = sum;
    min = least;
    max = greatest;
    ends = ends;
    inside = inside;
    outside = between - inside;
  })
  IsSplit-figures split is_in possible = rw split_figures-is (IsSplit-window landmarks from to w split is_in (rw same at possible))
