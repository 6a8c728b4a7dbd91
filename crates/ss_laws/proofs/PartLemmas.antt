-- The answer of a range lies within those of two ranges side by side put together, and so within those of the rows of a series.
use Rattle.std.specs.Prelude.{◌≡◌, ℕ, ◌+◌, ◌-◌, ◌<◌, ◌≤◌, Bool, true, false, ℤ, List, [], ◌∷◌, map, if◌then◌else◌}
use Rattle.std.proofs.Common.{ap, ap₂, inl, inr, refl, subst, sym, ◌∙◌}
use Rattle.std.proofs.lemmas.Bool.{cases_Bool, cases_lt}
use Rattle.ss_bounds.specs.Split.{SplitFigures}
use Rattle.ss_bounds.specs.Times.{lies_in, times_inside, times_outside}
use Rattle.ss_landmarks.specs.Free.{is_free}
use Rattle.ss_landmarks.specs.Landmark.{Landmark}
use Rattle.ss_model.proofs.MarkLemmas.{LiesFree}
use Rattle.ss_model.specs.Interval.{is_split, is_whole, split_figures}
use Rattle.ss_model.specs.declared.types.Window.{Window}
use Rattle.ss_summary.specs.Figures.{IsPossible}
use Rattle.ss_summary.specs.Points.{Point}
use Rattle.ss_laws.proofs.FigureLemmas.{AreValues}
use Rattle.ss_laws.proofs.SideLemmas.{HasAll-earlier, HasAll-later, IsCutBetween, IsCutBetween-cut, figures_of}
use Rattle.ss_laws.proofs.SideLemmas.{in-earlier, in-later, out-earlier, out-later}
use Rattle.ss_laws.proofs.Together.{EachWithin, PutsTogether, together, within-alike, within-both, within-pairs}

-- a window of a stream: its figures are those of some values, at free times
pub record Stands (ls : List Landmark) (w : Window) : Type 0 where
  pub possible : IsPossible w.summary
  pub lies : LiesFree ls w

abbrev pub AllStand : List Landmark → List Window → Type 0
AllStand ls [] = Unit {0}
AllStand ls (w ∷ ws) = Stands ls w × AllStand ls ws

-- a choice of three by two tests
abbrev pub pick : {X : Type 0} → Bool → Bool → X → X → X → X
pick a b x y z = if a then x else if b then y else z

pick-first : {X : Type 0} (a b : Bool) (x y z : X) → a ≡ true → pick a b x y z ≡ x
pick-first a b x y z first = rw first refl

pick-second : {X : Type 0} (a b : Bool) (x y z : X) → a ≡ false → b ≡ true → pick a b x y z ≡ y
pick-second a b x y z not_first second = rw (not_first, second) refl

pick-third : {X : Type 0} (a b : Bool) (x y z : X) → a ≡ false → b ≡ false → pick a b x y z ≡ z
pick-third a b x y z not_first not_second = rw (not_first, not_second) refl

pick-alike : {X : Type 0} (a b a' b' : Bool) (x y y' z : X) → a ≡ a' → b ≡ b' → y ≡ y' → pick a b x y z ≡ pick a' b' x y' z
pick-alike a b a' b' x y y' z first second same = λ i. pick (first i) (second i) x (same i) z

-- what is known of a window that is whole, of one that is split, and of a value of a landmark
module _ {X : Type 0} (none : X) (join : X → X → X) (Within : X → X → Type 0) (puts : PutsTogether none join Within)
    (whole : Window → X) (split : SplitFigures → X) (one : ℤ → X) where
  abbrev pub of_window : List Landmark → ℕ → ℕ → Window → X
  of_window ls p q w = pick (is_whole p q w) (is_split p q w) (whole w) (split (split_figures (is_free ls) p q w)) none

  abbrev pub of_mark : ℕ → ℕ → Point → X
  of_mark p q v = if lies_in p q v.0 then one v.1 else none

  abbrev pub of_range : List Landmark → List Window → List Point → ℕ → ℕ → X
  of_range ls ws marked p q = join (together none join (map (of_window ls p q) ws)) (together none join (map (of_mark p q) marked))

  -- a window that both of two ranges split leaves as much open as where the range of both splits it, and as where it is whole there
  pub record SplitsFurther : Type 0 where
    pub of_split : (w : Window) (ea eb ia ib o : ℕ) → AreValues w.summary.count w.summary.sum w.summary.min w.summary.max
        → ea + eb ≤ 2 → w.summary.count - 2 ≤ ia + ib + o
        → Within (split (figures_of w (ea + eb) (ia + ib) o)) (join (split (figures_of w ea ia (o + ib))) (split (figures_of w eb ib (o + ia))))
    pub of_whole : (w : Window) (ea eb ia ib o : ℕ) → AreValues w.summary.count w.summary.sum w.summary.min w.summary.max
        → w.summary.count - 2 ≤ ia + ib + o → ea + eb ≡ 2 → o ≡ 0
        → Within (whole w) (join (split (figures_of w ea ia (o + ib))) (split (figures_of w eb ib (o + ia))))

  -- an answer that is one of two of which the other says nothing
  within-first : (x y z : X) → y ≡ x → z ≡ none → Within x (join y z)
  within-first x y z same nothing = subst (Within x) (sym (ap₂ join same nothing ∙ puts.right x)) (puts.same x)

  within-second : (x y z : X) → z ≡ x → y ≡ none → Within x (join y z)
  within-second x y z same nothing = subst (Within x) (sym (ap₂ join nothing same ∙ puts.left x)) (puts.same x)

  module _ (further : SplitsFurther) (ls : List Landmark) (from mid to : ℕ) (before : from ≤ mid) (after : mid < to) where
    module _ (w : Window) (stands : Stands ls w) where
      within-cut : IsCutBetween ls from mid to before after w stands.possible stands.lies
          → Within (of_window ls from to w) (join (of_window ls from mid w) (of_window ls (mid + 1) to w))
      within-cut cut =
          let ea = cut.first_end in
          let eb = cut.second_end in
          let ia = times_inside (is_free ls) from mid w.summary.t_first w.summary.t_last in
          let ib = times_inside (is_free ls) (mid + 1) to w.summary.t_first w.summary.t_last in
          let o = times_outside (is_free ls) from to w.summary.t_first w.summary.t_last in
          let at = λ (p q : ℕ). split (split_figures (is_free ls) p q w) in
          let first : of_window ls from mid w ≡ split (figures_of w ea ia (o + ib)) =
          pick-second (is_whole from mid w) (is_split from mid w) (whole w) (at from mid) none cut.first_whole cut.first_split ∙ ap split cut.first in
          let second : of_window ls (mid + 1) to w ≡ split (figures_of w eb ib (o + ia)) =
          pick-second (is_whole (mid + 1) to w) (is_split (mid + 1) to w) (whole w) (at (mid + 1) to) none cut.second_whole cut.second_split
          ∙ ap split cut.second in
          let alike = λ (x : X) (same : of_window ls from to w ≡ x). within-alike none join Within puts (of_window ls from to w) x
          (of_window ls from mid w) (split (figures_of w ea ia (o + ib))) (of_window ls (mid + 1) to w) (split (figures_of w eb ib (o + ia)))
          same first second in
          elim (cases_Bool (is_whole from to w)) [
            | inl every ↦ (let both = cut.if_whole every in
                alike (whole w) (pick-first (is_whole from to w) (is_split from to w) (whole w) (at from to) none every)
                (further.of_whole w ea eb ia ib o cut.values cut.room both.0 both.1))
            | inr some ↦ alike (split (figures_of w (ea + eb) (ia + ib) o))
                (pick-second (is_whole from to w) (is_split from to w) (whole w) (at from to) none some (cut.if_not some) ∙ ap split cut.all)
                (further.of_split w ea eb ia ib o cut.values cut.ends cut.room)
          ]

      within-window : Within (of_window ls from to w) (join (of_window ls from mid w) (of_window ls (mid + 1) to w))
      within-window =
          let at = λ (p q : ℕ). split (split_figures (is_free ls) p q w) in
          elim (cases_lt mid w.summary.t_first) [
            | inl late ↦
                (let has = HasAll-later ls from mid to before after w stands.possible stands.lies late in
                within-second (of_window ls from to w) (of_window ls from mid w) (of_window ls (mid + 1) to w)
                (pick-alike (is_whole (mid + 1) to w) (is_split (mid + 1) to w) (is_whole from to w) (is_split from to w) (whole w)
                (at (mid + 1) to) (at from to) none has.whole has.split (ap split has.figures))
                (pick-third (is_whole from mid w) (is_split from mid w) (whole w) (at from mid) none has.none_whole has.none_split))
            | inr begun ↦ elim (cases_lt mid w.summary.t_last) [
              | inl unended ↦ within-cut (IsCutBetween-cut ls from mid to before after w stands.possible stands.lies begun unended)
              | inr ended ↦
                  (let has = HasAll-earlier ls from mid to before after w stands.possible stands.lies ended in
                  within-first (of_window ls from to w) (of_window ls from mid w) (of_window ls (mid + 1) to w)
                  (pick-alike (is_whole from mid w) (is_split from mid w) (is_whole from to w) (is_split from to w) (whole w)
                  (at from mid) (at from to) none has.whole has.split (ap split has.figures))
                  (pick-third (is_whole (mid + 1) to w) (is_split (mid + 1) to w) (whole w) (at (mid + 1) to) none has.none_whole has.none_split))
            ]
          ]

    within-windows : (ws : List Window) → AllStand ls ws
        → EachWithin none join Within puts (of_window ls from to) (of_window ls from mid) (of_window ls (mid + 1) to) ws
    within-windows [] stand = tt
    within-windows (w ∷ ws) stand = (within-window w stand.0, within-windows ws stand.1)

    within-mark : (v : Point) → Within (of_mark from to v) (join (of_mark from mid v) (of_mark (mid + 1) to v))
    within-mark v = elim (cases_lt mid v.0) [
      | inl late ↦ within-second (of_mark from to v) (of_mark from mid v) (of_mark (mid + 1) to v)
          (ap (λ b. if b then one v.1 else none) (in-later from mid to v.0 before late))
          (ap (λ b. if b then one v.1 else none) (out-earlier from mid v.0 late))
      | inr early ↦ within-first (of_mark from to v) (of_mark from mid v) (of_mark (mid + 1) to v)
          (ap (λ b. if b then one v.1 else none) (in-earlier from mid to v.0 after early))
          (ap (λ b. if b then one v.1 else none) (out-later mid to v.0 early))
    ]

    within-marks : (marked : List Point) → EachWithin none join Within puts (of_mark from to) (of_mark from mid) (of_mark (mid + 1) to) marked
    within-marks [] = tt
    within-marks (v ∷ marked) = (within-mark v, within-marks marked)

    pub within-range : (ws : List Window) (marked : List Point) → AllStand ls ws
        → Within (of_range ls ws marked from to) (join (of_range ls ws marked from mid) (of_range ls ws marked (mid + 1) to))
    within-range ws marked stand =
        let windows = λ (p q : ℕ). together none join (map (of_window ls p q) ws) in
        let marks = λ (p q : ℕ). together none join (map (of_mark p q) marked) in
        within-both none join Within puts (windows from to) (marks from to) (windows from mid) (marks from mid) (windows (mid + 1) to) (marks (mid + 1) to)
        (within-pairs none join Within puts (of_window ls from to) (of_window ls from mid) (of_window ls (mid + 1) to) ws (within-windows ws stand))
        (within-pairs none join Within puts (of_mark from to) (of_mark from mid) (of_mark (mid + 1) to) marked (within-marks marked))
