-- Counts and sums of ranges side by side add up: the interval of a range lies within the sum of theirs.
use Rattle.std.specs.Prelude.{◌≡◌, ℕ, ◌+◌, ◌-◌, ◌≤◌, Bool, true, false, ◌&&◌, not, if◌then◌else◌, ℤ, pos, ◌+ℤ◌, List, [], ◌∷◌, length, map, sum_by}
use Rattle.std.specs.List.{filter}
use Rattle.std.proofs.Common.{ap, ap₂, arith, refl, subst, sym, ◌∙◌}
use Rattle.std.proofs.lemmas.Int.{ints}
use Rattle.std.proofs.lemmas.List.Sums.{sum_by-cons}
use Rattle.ss_bounds.specs.Several.{sum_of_counts, sum_of_sums}
use Rattle.ss_bounds.specs.Split.{SplitFigures, greatest_count, least_count, sum_interval}
use Rattle.ss_bounds.specs.Times.{lies_in}
use Rattle.ss_bounds.specs.Truth.{asked, total, values_alone}
use Rattle.ss_landmarks.specs.Free.{is_free}
use Rattle.ss_landmarks.specs.Landmark.{Landmark}
use Rattle.ss_model.specs.Interval.{interval_of_count, interval_of_sum, is_apart, is_split, is_whole, split_figures, split_windows, whole_windows}
use Rattle.ss_model.specs.declared.types.Window.{Window}
use Rattle.ss_summary.specs.Points.{Point}
use Rattle.ss_laws.specs.Parts.{IsCountWithin, IsSumWithin}
use Rattle.ss_laws.proofs.FigureLemmas.{AreValues, greatest_count-adds, least_count-adds, sum_interval-adds, sum_interval-whole}
use Rattle.ss_laws.proofs.PartLemmas.{SplitsFurther, of_mark, of_range, of_window, pick}
use Rattle.ss_laws.proofs.SideLemmas.{figures-same, figures_of}
use Rattle.ss_laws.proofs.Together.{PutsTogether, together}

pub pair : {X Y : Type 0} (a b : X × Y) → a.0 ≡ b.0 → a.1 ≡ b.1 → a ≡ b
pair a b first second = λ i. (first i, second i)

-- a part of what is picked
picked : {X Y : Type 0} (part : X → Y) (a b : Bool) (x y z : X) → part (pick a b x y z) ≡ pick a b (part x) (part y) (part z)
picked part true b x y z = refl
picked part false true x y z = refl
picked part false false x y z = refl

either : {X Y : Type 0} (part : X → Y) (b : Bool) (x y : X) → part (if b then x else y) ≡ (if b then part x else part y)
either part true x y = refl
either part false x y = refl

-- ---- counts

abbrev pub no_count : ℕ × ℕ
no_count = (0, 0)

abbrev pub add_counts : ℕ × ℕ → ℕ × ℕ → ℕ × ℕ
add_counts a b = (a.0 + b.0, a.1 + b.1)

pub counts-put : PutsTogether no_count add_counts IsCountWithin
counts-put = record {
  left = λ x. pair _ _ (omega arith) (omega arith);
  right = λ x. pair _ _ (omega arith) (omega arith);
  swap = λ a b c d. pair _ _ (omega arith) (omega arith);
  same = λ x. (omega arith, omega arith);
  follows = λ x y z one two. (omega (arith, one.0, two.0), omega (arith, one.1, two.1));
  joined = λ x y v w one two. (omega (arith, one.0, two.0), omega (arith, one.1, two.1));
}

abbrev pub whole_count : Window → ℕ × ℕ
whole_count w = (w.summary.count, w.summary.count)

abbrev pub split_count : SplitFigures → ℕ × ℕ
split_count s = (least_count s, greatest_count s)

abbrev pub one_count : ℤ → ℕ × ℕ
one_count v = (1, 1)

pub counts-further : SplitsFurther no_count add_counts IsCountWithin counts-put whole_count split_count one_count
counts-further = record {
  of_split = λ w ea eb ia ib o values ends room. (
    least_count-adds _ _ _ _ values ea eb ia ib o ends room,
    greatest_count-adds _ _ _ _ values ea eb ia ib o ends room,
  );
  of_whole = λ w ea eb ia ib o values room both none.
      let ends : ea + eb ≤ 2 = omega (arith, both) in (
        omega (arith, least_count-adds _ _ _ _ values ea eb ia ib o ends room, both, none, values.more),
        omega (arith, greatest_count-adds _ _ _ _ values ea eb ia ib o ends room, both, none, room, values.more),
      );
}

-- all of them are the sum
pub sum_of_counts-together : (all : List (ℕ × ℕ)) → together no_count add_counts all ≡ sum_of_counts all
sum_of_counts-together [] = refl
sum_of_counts-together (c ∷ all) =
    let rest = sum_of_counts-together all in
    let low = sum_by-cons (λ (i : ℕ × ℕ). i.0) c all in
    let high = sum_by-cons (λ (i : ℕ × ℕ). i.1) c all in
    pair _ _ (ap (λ (x : ℕ × ℕ). c.0 + x.0) rest ∙ sym low) (ap (λ (x : ℕ × ℕ). c.1 + x.1) rest ∙ sym high)

-- the interval of a count, window by window
abbrev counts_of : List Window → ℕ
counts_of ws = sum_by (λ (w : Window). w.summary.count) ws

count-next : (a c : Bool) (end : SplitFigures → ℕ) (F : Window → SplitFigures) (w : Window) (wholes splits : List Window) →
    counts_of (if a then w ∷ wholes else wholes) + sum_by end (map F (if not a && not c then w ∷ splits else splits))
    ≡ pick a (not a && not c) w.summary.count (end (F w)) 0 + (counts_of wholes + sum_by end (map F splits))
count-next true c end F w wholes splits = omega (arith, sum_by-cons (λ (v : Window). v.summary.count) w wholes)
count-next false true end F w wholes splits = omega arith
count-next false false end F w wholes splits = omega (arith, sum_by-cons end (F w) (map F splits))

marks-next : (b : Bool) (v : Point) (rest : List Point)
    → length (values_alone (if b then v ∷ rest else rest)) ≡ (if b then 1 else 0) + length (values_alone rest)
marks-next true v rest = omega arith
marks-next false v rest = omega arith

module _ (ls : List Landmark) (p q : ℕ) where
  abbrev count_in : Window → ℕ × ℕ
  count_in = of_window no_count add_counts IsCountWithin counts-put whole_count split_count one_count ls p q

  abbrev count_at : Point → ℕ × ℕ
  count_at = of_mark no_count add_counts IsCountWithin counts-put whole_count split_count one_count p q

  count-windows : (ws : List Window) → (counts_of (whole_windows p q ws) + sum_by least_count (split_windows (is_free ls) p q ws)
      ≡ (together no_count add_counts (map count_in ws)).0)
      × (counts_of (whole_windows p q ws) + sum_by greatest_count (split_windows (is_free ls) p q ws)
      ≡ (together no_count add_counts (map count_in ws)).1)
  count-windows [] = (refl, refl)
  count-windows (w ∷ ws) =
      let rest = count-windows ws in
      let F = split_figures (is_free ls) p q in
      let low = count-next (is_whole p q w) (is_apart p q w) least_count F w (whole_windows p q ws) (filter (is_split p q) ws) in
      let high = count-next (is_whole p q w) (is_apart p q w) greatest_count F w (whole_windows p q ws) (filter (is_split p q) ws) in
      let here = picked (λ (i : ℕ × ℕ). i.0) (is_whole p q w) (is_split p q w) (whole_count w) (split_count (F w)) no_count in
      let there = picked (λ (i : ℕ × ℕ). i.1) (is_whole p q w) (is_split p q w) (whole_count w) (split_count (F w)) no_count in
      (low ∙ ap₂ (λ x y. x + y) (sym here) rest.0, high ∙ ap₂ (λ x y. x + y) (sym there) rest.1)

  count-marks : (marked : List Point) → (length (asked p q marked) ≡ (together no_count add_counts (map count_at marked)).0)
      × (length (asked p q marked) ≡ (together no_count add_counts (map count_at marked)).1)
  count-marks [] = (refl, refl)
  count-marks (v ∷ marked) =
      let rest = count-marks marked in
      let next = marks-next (lies_in p q v.0) v (filter (λ z. lies_in p q z.0) marked) in
      let here : (count_at v).0 ≡ (if lies_in p q v.0 then 1 else 0) = either (λ (i : ℕ × ℕ). i.0) (lies_in p q v.0) (1, 1) (0, 0) in
      let there : (count_at v).1 ≡ (if lies_in p q v.0 then 1 else 0) = either (λ (i : ℕ × ℕ). i.1) (lies_in p q v.0) (1, 1) (0, 0) in
      (next ∙ ap₂ (λ x y. x + y) (sym here) rest.0, next ∙ ap₂ (λ x y. x + y) (sym there) rest.1)

  pub interval_of_count-parts : (ws : List Window) (marked : List Point) → interval_of_count (is_free ls) p q ws marked
      ≡ of_range no_count add_counts IsCountWithin counts-put whole_count split_count one_count ls ws marked p q
  interval_of_count-parts ws marked =
      let windows = count-windows ws in
      let marks = count-marks marked in
      pair _ _ (omega (arith, windows.0, marks.0)) (omega (arith, windows.1, marks.1))

-- ---- sums

abbrev pub no_sum : ℤ × ℤ
no_sum = (pos 0, pos 0)

abbrev pub add_sums : ℤ × ℤ → ℤ × ℤ → ℤ × ℤ
add_sums a b = (a.0 +ℤ b.0, a.1 +ℤ b.1)

pub sums-put : PutsTogether no_sum add_sums IsSumWithin
sums-put = record {
  left = λ x. pair _ _ (omega (arith, ints)) (omega (arith, ints));
  right = λ x. pair _ _ (omega (arith, ints)) (omega (arith, ints));
  swap = λ a b c d. pair _ _ (omega (arith, ints)) (omega (arith, ints));
  same = λ x. (omega (arith, ints), omega (arith, ints));
  follows = λ x y z one two. (omega (arith, ints, one.0, two.0), omega (arith, ints, one.1, two.1));
  joined = λ x y v w one two. (omega (arith, ints, one.0, two.0), omega (arith, ints, one.1, two.1));
}

abbrev pub whole_sum : Window → ℤ × ℤ
whole_sum w = (w.summary.sum, w.summary.sum)

abbrev pub one_sum : ℤ → ℤ × ℤ
one_sum v = (v, v)

-- a window of which all lies in the range
all-whole : (w : Window) (e i o : ℕ) → AreValues w.summary.count w.summary.sum w.summary.min w.summary.max → w.summary.count - 2 ≤ i + o
    → e ≡ 2 → o ≡ 0 → sum_interval (figures_of w e i o) ≡ (w.summary.sum, w.summary.sum)
all-whole w e i o values room both none =
    ap sum_interval (figures-same w _ _ _ _ _ _ both refl none) ∙ sum_interval-whole _ _ _ _ values i (omega (arith, room, none))

pub sums-further : SplitsFurther no_sum add_sums IsSumWithin sums-put whole_sum sum_interval one_sum
sums-further = record {
  of_split = λ w ea eb ia ib o values ends room. sum_interval-adds _ _ _ _ values ea eb ia ib o ends room;
  of_whole = λ w ea eb ia ib o values room both none.
      subst (λ x. IsSumWithin x (add_sums (sum_interval (figures_of w ea ia (o + ib))) (sum_interval (figures_of w eb ib (o + ia)))))
      (all-whole w (ea + eb) (ia + ib) o values room both none)
      (sum_interval-adds _ _ _ _ values ea eb ia ib o (omega (arith, both)) room);
}

pub sum_of_sums-together : (all : List (ℤ × ℤ)) → together no_sum add_sums all ≡ sum_of_sums all
sum_of_sums-together [] = refl
sum_of_sums-together (c ∷ all) = ap (add_sums c) (sum_of_sums-together all)

-- the interval of a sum, window by window
abbrev sums_of : List Window → ℤ
sums_of ws = total (map (λ (w : Window). w.summary.sum) ws)

sum-next : (a c : Bool) (part : ℤ × ℤ → ℤ) (F : Window → SplitFigures) (w : Window) (wholes splits : List Window) →
    (sums_of (if a then w ∷ wholes else wholes) +ℤ total (map part (map sum_interval (map F (if not a && not c then w ∷ splits else splits)))))
    ≡ (pick a (not a && not c) w.summary.sum (part (sum_interval (F w))) (pos 0) +ℤ (sums_of wholes +ℤ total (map part (map sum_interval (map F splits)))))
sum-next true c part F w wholes splits = omega (arith, ints)
sum-next false true part F w wholes splits = omega (arith, ints)
sum-next false false part F w wholes splits = omega (arith, ints)

sum-marks-next : (b : Bool) (v : Point) (rest : List Point)
    → total (values_alone (if b then v ∷ rest else rest)) ≡ ((if b then v.1 else pos 0) +ℤ total (values_alone rest))
sum-marks-next true v rest = refl
sum-marks-next false v rest = omega (arith, ints)

module _ (ls : List Landmark) (p q : ℕ) where
  abbrev sum_in : Window → ℤ × ℤ
  sum_in = of_window no_sum add_sums IsSumWithin sums-put whole_sum sum_interval one_sum ls p q

  abbrev sum_at : Point → ℤ × ℤ
  sum_at = of_mark no_sum add_sums IsSumWithin sums-put whole_sum sum_interval one_sum p q

  -- one end of it
  sum-windows : (part : ℤ × ℤ → ℤ) → part no_sum ≡ pos 0 → ((a b : ℤ × ℤ) → part (add_sums a b) ≡ (part a +ℤ part b))
      → ((w : Window) → part (whole_sum w) ≡ w.summary.sum) → (ws : List Window)
      → (sums_of (whole_windows p q ws) +ℤ total (map part (map sum_interval (split_windows (is_free ls) p q ws))))
      ≡ part (together no_sum add_sums (map sum_in ws))
  sum-windows part none adds whole [] = omega (arith, ints, none)
  sum-windows part none adds whole (w ∷ ws) =
      let rest = sum-windows part none adds whole ws in
      let F = split_figures (is_free ls) p q in
      let next = sum-next (is_whole p q w) (is_apart p q w) part F w (whole_windows p q ws) (filter (is_split p q) ws) in
      let here = picked part (is_whole p q w) (is_split p q w) (whole_sum w) (sum_interval (F w)) no_sum in
      let here : part (sum_in w) ≡ pick (is_whole p q w) (is_split p q w) w.summary.sum (part (sum_interval (F w))) (pos 0) =
      here ∙ ap₂ (λ x z. pick (is_whole p q w) (is_split p q w) x (part (sum_interval (F w))) z) (whole w) none in
      next ∙ ap₂ (λ x y. x +ℤ y) (sym here) rest ∙ sym (adds (sum_in w) (together no_sum add_sums (map sum_in ws)))

  sum-marks : (part : ℤ × ℤ → ℤ) → part no_sum ≡ pos 0 → ((a b : ℤ × ℤ) → part (add_sums a b) ≡ (part a +ℤ part b))
      → ((v : ℤ) → part (one_sum v) ≡ v) → (marked : List Point) → total (asked p q marked) ≡ part (together no_sum add_sums (map sum_at marked))
  sum-marks part none adds whole [] = sym none
  sum-marks part none adds whole (v ∷ marked) =
      let rest = sum-marks part none adds whole marked in
      let next = sum-marks-next (lies_in p q v.0) v (filter (λ z. lies_in p q z.0) marked) in
      let here : part (sum_at v) ≡ (if lies_in p q v.0 then v.1 else pos 0) =
      either part (lies_in p q v.0) (one_sum v.1) no_sum ∙ ap₂ (λ x z. if lies_in p q v.0 then x else z) (whole v.1) none in
      next ∙ ap₂ (λ x y. x +ℤ y) (sym here) rest ∙ sym (adds (sum_at v) (together no_sum add_sums (map sum_at marked)))

  pub interval_of_sum-parts : (ws : List Window) (marked : List Point) → interval_of_sum (is_free ls) p q ws marked
      ≡ of_range no_sum add_sums IsSumWithin sums-put whole_sum sum_interval one_sum ls ws marked p q
  interval_of_sum-parts ws marked =
      let known = sums_of (whole_windows p q ws) in
      let splits = map sum_interval (split_windows (is_free ls) p q ws) in
      let windows_low : (known +ℤ total (map (λ (i : ℤ × ℤ). i.0) splits)) ≡ (together no_sum add_sums (map sum_in ws)).0 =
      sum-windows (λ i. i.0) refl (λ a b. refl) (λ w. refl) ws in
      let windows_high : (known +ℤ total (map (λ (i : ℤ × ℤ). i.1) splits)) ≡ (together no_sum add_sums (map sum_in ws)).1 =
      sum-windows (λ i. i.1) refl (λ a b. refl) (λ w. refl) ws in
      let marks_low : total (asked p q marked) ≡ (together no_sum add_sums (map sum_at marked)).0 =
      sum-marks (λ i. i.0) refl (λ a b. refl) (λ v. refl) marked in
      let marks_high : total (asked p q marked) ≡ (together no_sum add_sums (map sum_at marked)).1 =
      sum-marks (λ i. i.1) refl (λ a b. refl) (λ v. refl) marked in
      pair _ _ (omega (arith, ints, windows_low, marks_low)) (omega (arith, ints, windows_high, marks_high))
