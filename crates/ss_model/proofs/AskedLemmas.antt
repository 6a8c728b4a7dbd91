-- The values of one window that a query asks for: all of them, none, or some.
use Rattle.ss_model.proofs.Common.{ℤ, ◌+ℤ◌, ◌≤ℤ◌, int_min, int_max, filter, ap, arith, inl, inr, refl, ◌∙◌, cases_lt, nat_tests, ints, clamps, filter-append}
use Rattle.ss_model.proofs.Common.{map-append, AreAlike, Figures, summary_of, least, greatest, time_at_end, chosen, lies_in, asked, values_alone, total}
use Rattle.ss_model.proofs.Common.{AreSplit, Point, is_whole, is_split, split_figures, RiseAtFree, Window}
use Rattle.std.specs.Prelude.{◌≡◌, ℕ, ◌+◌, ◌<◌, ◌≤◌, Bool, true, false, List, [], ◌∷◌, ◌++◌}
use Rattle.ss_summary.specs.Summaries as summaries
use Rattle.ss_bounds.specs.Times.{split_of}
use Rattle.ss_bounds.specs.Truth.{RiseFree}

-- what a summary says of values is what they say one by one
pub total-alone : (ps : List Point) → summaries.total ps ≡ total (values_alone ps)
total-alone [] = refl
total-alone (p ∷ ps) = ap (λ z. p.1 +ℤ z) (total-alone ps)

pub least-alone : (v : ℤ) (ps : List Point) → least v ps ≡ chosen int_min v (values_alone ps)
least-alone v [] = refl
least-alone v (p ∷ ps) = ap (int_min v) (least-alone p.1 ps)

pub greatest-alone : (v : ℤ) (ps : List Point) → greatest v ps ≡ chosen int_max v (values_alone ps)
greatest-alone v [] = refl
greatest-alone v (p ∷ ps) = ap (int_max v) (greatest-alone p.1 ps)

pub time_at_end-after : (free : ℕ → Bool) (p : Point) (ps : List Point) → RiseAtFree free (p.0 + 1) ps → p.0 ≤ time_at_end p.0 ps
time_at_end-after free p [] rising = omega arith
time_at_end-after free p (q ∷ qs) rising = omega (arith, rising.0, time_at_end-after free q qs rising.2)

RiseFree-RiseAtFree : (free : ℕ → Bool) (m M : ℤ) (start : ℕ) (p : Point) (ps : List Point) → RiseAtFree free start (p ∷ ps)
    → m ≤ℤ least p.1 ps → greatest p.1 ps ≤ℤ M → RiseFree free m M start (p ∷ ps)
RiseFree-RiseAtFree free m M start p [] rising low high = (rising.0, rising.1, low, high, tt)
RiseFree-RiseAtFree free m M start p (q ∷ qs) rising low high = (
  rising.0,
  rising.1,
  omega (arith, ints, clamps),
  omega (arith, ints, clamps),
  RiseFree-RiseAtFree free m M (p.0 + 1) q qs rising.2 (omega (arith, ints, clamps)) (omega (arith, ints, clamps)),
)

lies_in-true : (from to t : ℕ) → from ≤ t → t ≤ to → lies_in from to t ≡ true
lies_in-true from to t begins ends = grind (arith, nat_tests)

lies_in-before : (from to t : ℕ) → t < from → lies_in from to t ≡ false
lies_in-before from to t before = grind (arith, nat_tests)

lies_in-after : (from to t : ℕ) → to < t → lies_in from to t ≡ false
lies_in-after from to t after = grind (arith, nat_tests)

-- the values of a list and then another
pub asked-append : (from to : ℕ) (xs ys : List Point) → asked from to (xs ++ ys) ≡ asked from to xs ++ asked from to ys
asked-append from to xs ys =
    ap values_alone (filter-append (λ p. lies_in from to p.0) xs ys) ∙
    map-append (λ p. p.1) (filter (λ p. lies_in from to p.0) xs) (filter (λ p. lies_in from to p.0) ys)

module _ (free : ℕ → Bool) (from to : ℕ) where
  asked-whole : (p : Point) (ps : List Point) → RiseAtFree free (p.0 + 1) ps → from ≤ p.0 → time_at_end p.0 ps ≤ to
      → asked from to (p ∷ ps) ≡ values_alone (p ∷ ps)
  asked-whole p [] rising begins ends =
      let here = lies_in-true from to p.0 begins ends in
      rw here refl
  asked-whole p (q ∷ qs) rising begins ends =
      let after = time_at_end-after free q qs rising.2 in
      let order = rising.0 in
      let here : lies_in from to p.0 ≡ true = lies_in-true from to p.0 begins (omega arith) in
      let rest = asked-whole q qs rising.2 (omega arith) ends in
      rw here (ap (λ z. p.1 ∷ z) rest)

  asked-before : (p : Point) (ps : List Point) → RiseAtFree free (p.0 + 1) ps → time_at_end p.0 ps < from → asked from to (p ∷ ps) ≡ []
  asked-before p [] rising before =
      let not_here = lies_in-before from to p.0 before in
      rw not_here refl
  asked-before p (q ∷ qs) rising before =
      let after = time_at_end-after free q qs rising.2 in
      let order = rising.0 in
      let not_here : lies_in from to p.0 ≡ false = lies_in-before from to p.0 (omega arith) in
      rw not_here (asked-before q qs rising.2 before)

  asked-after : (p : Point) (ps : List Point) → RiseAtFree free (p.0 + 1) ps → to < p.0 → asked from to (p ∷ ps) ≡ []
  asked-after p [] rising after =
      let not_here = lies_in-after from to p.0 after in
      rw not_here refl
  asked-after p (q ∷ qs) rising after =
      let order = rising.0 in
      let not_here : lies_in from to p.0 ≡ false = lies_in-after from to p.0 after in
      rw not_here (asked-after q qs rising.2 (omega arith))

  -- where a window of these values lies, with what a query asks of them
  pub data Asked (w : Window) (p : Point) (ps : List Point) : Type 0 where
    whole : is_whole from to w ≡ true → is_split from to w ≡ false → asked from to (p ∷ ps) ≡ values_alone (p ∷ ps) → Asked w p ps
    apart : is_whole from to w ≡ false → is_split from to w ≡ false → asked from to (p ∷ ps) ≡ [] → Asked w p ps
    split : is_whole from to w ≡ false → is_split from to w ≡ true
        → AreSplit free from to p ps (split_figures free from to w) → Asked w p ps

  split-of : (w : Window) (p : Point) (ps : List Point) → AreAlike w.summary (summary_of (p ∷ ps)) → RiseAtFree free p.0 (p ∷ ps)
      → (first : ¬ ((from ≤ p.0) × (time_at_end p.0 ps ≤ to))) → from ≤ time_at_end p.0 ps → p.0 ≤ to
      → AreSplit free from to p ps (split_figures free from to w)
  split-of w p [] is rising not_whole late early = absurd (not_whole (late, early))
  split-of w p (q ∷ qs) is rising not_whole late early =
      let min = ap (λ (f : Figures). f.min) is in
      let max = ap (λ (f : Figures). f.max) is in
      let sum = ap (λ (f : Figures). f.sum) is ∙ total-alone (p ∷ q ∷ qs) in
      let last = ap (λ (f : Figures). f.t_last) is in
      let count = ap (λ (f : Figures). f.count) is in
      let first = ap (λ (f : Figures). f.t_first) is in
      record {
        more = omega arith;
        rising = RiseFree-RiseAtFree free w.summary.min w.summary.max 0 p (q ∷ qs) (omega arith, rising.1, rising.2) (omega (arith, ints))
            (omega (arith, ints));
        is = λ i. split_of free from to (count i) (sum i) w.summary.min w.summary.max (first i) (last i);
      }

  pub asked-of : (w : Window) (p : Point) (ps : List Point) → AreAlike w.summary (summary_of (p ∷ ps)) → RiseAtFree free p.0 (p ∷ ps) → Asked w p ps
  asked-of w p ps is rising =
      let last = ap (λ (f : Figures). f.t_last) is in
      let first = ap (λ (f : Figures). f.t_first) is in
      let order = time_at_end-after free p ps rising.2 in
      elim (cases_lt p.0 from) [
        | inl starts_before ↦ elim (cases_lt (time_at_end p.0 ps) from) [
          | inl before ↦ apart (grind (arith, nat_tests)) (grind (arith, nat_tests)) (asked-before p ps rising.2 before)
          | inr reaches ↦ elim (cases_lt to p.0) [
            | inl after ↦ apart (grind (arith, nat_tests)) (grind (arith, nat_tests)) (asked-after p ps rising.2 after)
            | inr early ↦ split (grind (arith, nat_tests)) (grind (arith, nat_tests))
                (split-of w p ps is rising (λ both. let low = both.0 in omega arith) reaches early)
          ]
        ]
        | inr late ↦ elim (cases_lt to p.0) [
          | inl after ↦ apart (grind (arith, nat_tests)) (grind (arith, nat_tests)) (asked-after p ps rising.2 after)
          | inr early ↦ elim (cases_lt to (time_at_end p.0 ps)) [
            | inl past ↦ split (grind (arith, nat_tests)) (grind (arith, nat_tests))
                (split-of w p ps is rising (λ both. let high = both.1 in omega arith) (omega arith) early)
            | inr within ↦ whole (grind (arith, nat_tests)) (grind (arith, nat_tests)) (asked-whole p ps rising.2 late within)
          ]
        ]
      ]
