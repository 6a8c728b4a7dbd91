-- How many values at rising free times there are in a range and outside it, against how many such times.
use Rattle.std.specs.Prelude.{◌≡◌, ℕ, zero, suc, ◌+◌, ◌-◌, ◌<◌, ◌≤◌, Bool, true, false, ◌&&◌, not, if◌then◌else◌, ℤ, List, [], ◌∷◌, length}
use Rattle.std.specs.List.{count_by, filter, range_with_len}
use Rattle.std.proofs.Common.{ap, arith, refl, sym, ◌∙◌, zero-add}
use Rattle.std.proofs.lemmas.List.Sums.{sum_by-cons}
use Rattle.ss_summary.specs.Points.{Point}
use Rattle.ss_bounds.specs.Split.{SplitFigures, least_count, greatest_count}
use Rattle.ss_bounds.specs.Times.{lies_in}
use Rattle.ss_summary.specs.Summaries.{time_at_end}
use Rattle.ss_bounds.specs.Truth.{asked, values_alone, RiseFree, AreSplit}

-- 1 for what is true
abbrev pub one_if : Bool → ℕ
one_if b = if b then 1 else 0

pub count_by-cons : (test : ℕ → Bool) (t : ℕ) (ts : List ℕ) → count_by test (t ∷ ts) ≡ one_if (test t) + count_by test ts
count_by-cons test t ts = sum_by-cons (λ x. one_if (test x)) t ts

-- a time, and those after it, are among those from an earlier time on
count_by-from : (test : ℕ → Bool) (a d end : ℕ) → a + d < end
    → one_if (test (a + d)) + count_by test (range_with_len (a + d + 1) (end - (a + d + 1))) ≤ count_by test (range_with_len a (end - a))
count_by-from test a zero end before =
    let here : a + 0 ≡ a = omega arith in
    let more : end - a ≡ suc (end - (a + 1)) = omega arith in
    rw (here, more) (omega (arith, count_by-cons test a (range_with_len (a + 1) (end - (a + 1)))))
count_by-from test a (suc d) end before =
    let step : a + suc d ≡ a + 1 + d = omega arith in
    let more : end - a ≡ suc (end - (a + 1)) = omega arith in
    let rest = count_by-from test (a + 1) d end (omega arith) in
    rw (step, more) (omega (arith, rest, count_by-cons test a (range_with_len (a + 1) (end - (a + 1)))))

count_by-at : (test : ℕ → Bool) (a t end : ℕ) → a ≤ t → t < end
    → one_if (test t) + count_by test (range_with_len (t + 1) (end - (t + 1))) ≤ count_by test (range_with_len a (end - a))
count_by-at test a t end from before =
    let same : a + (t - a) ≡ t = omega arith in
    rw same at (count_by-from test a (t - a) end (omega arith))

-- no time of rising ones is after the last
time_at_end-after : (free : ℕ → Bool) (m M : ℤ) (start : ℕ) (q : Point) (qs : List Point) → RiseFree free m M start (q ∷ qs)
    → q.0 + length qs ≤ time_at_end q.0 qs
time_at_end-after free m M start q [] rising = omega arith
time_at_end-after free m M start q (r ∷ rs) rising =
    let rest = time_at_end-after free m M (q.0 + 1) r rs rising.4 in
    omega (arith, rest, rising.4.0)

module _ (free : ℕ → Bool) (from to : ℕ) (m M : ℤ) where
  -- of the values after the first of a window, the last one and others: how many of the others lie in the range
  record Others (start : ℕ) (q : Point) (qs : List Point) : Type 0 where
    many : ℕ
    all : length (asked from to (q ∷ qs)) ≡ many + one_if (lies_in from to (time_at_end q.0 qs))
    some : many ≤ length qs
    in_range : many ≤ count_by (λ t. free t && lies_in from to t) (range_with_len start (time_at_end q.0 qs - start))
    not_in_range : length qs ≤ many + count_by (λ t. free t && not (lies_in from to t)) (range_with_len start (time_at_end q.0 qs - start))

  others-next : (start : ℕ) (q r : Point) (rs : List Point) → start ≤ q.0 → free q.0 ≡ true → q.0 < time_at_end r.0 rs
      → Others (q.0 + 1) r rs → (b : Bool) → lies_in from to q.0 ≡ b → Others start q (r ∷ rs)
  others-next start q r rs late is_free before rest true is =
      let at_inside = count_by-at (λ t. free t && lies_in from to t) start q.0 (time_at_end r.0 rs) late before in
      let at_outside = count_by-at (λ t. free t && not (lies_in from to t)) start q.0 (time_at_end r.0 rs) late before in
      let at_inside = rw (is_free, is) at at_inside in
      let at_outside = rw (is_free, is) at at_outside in
      record {
        many = suc rest.many;
        all = rw is (omega (arith, rest.all));
        some = omega (arith, rest.some);
        in_range = omega (arith, rest.in_range);
        not_in_range = omega (arith, rest.not_in_range);
      }
  others-next start q r rs late is_free before rest false is =
      let at_inside = count_by-at (λ t. free t && lies_in from to t) start q.0 (time_at_end r.0 rs) late before in
      let at_outside = count_by-at (λ t. free t && not (lies_in from to t)) start q.0 (time_at_end r.0 rs) late before in
      let at_inside = rw (is_free, is) at at_inside in
      let at_outside = rw (is_free, is) at at_outside in
      record {
        many = rest.many;
        all = rw is (omega (arith, rest.all));
        some = omega (arith, rest.some);
        in_range = omega (arith, rest.in_range);
        not_in_range = omega (arith, rest.not_in_range);
      }

  asked-one : (q : Point) (b : Bool) → lies_in from to q.0 ≡ b → length (asked from to (q ∷ [])) ≡ one_if b
  asked-one q true is = rw is refl
  asked-one q false is = rw is refl

  others : (start : ℕ) (q : Point) (qs : List Point) → RiseFree free m M start (q ∷ qs) → Others start q qs
  others start q [] rising = record {
    many = 0;
    all = asked-one q (lies_in from to q.0) refl ∙ sym (zero-add _);
    some = omega arith;
    in_range = omega arith;
    not_in_range = omega arith;
  }
  others start q (r ∷ rs) rising =
      let before = time_at_end-after free m M (q.0 + 1) r rs rising.4 in
      others-next start q r rs rising.0 rising.1 (omega (arith, rising.4.0)) (others (q.0 + 1) r rs rising.4) (lies_in from to q.0) refl

-- a value is among those in the range where its time is
asked-next : (p : Point) (ps : List Point) (b : Bool) → length (values_alone (if b then p ∷ ps else ps)) ≡ one_if b + length (values_alone ps)
asked-next p ps true = omega arith
asked-next p ps false = omega arith

-- how many values of a window lie in the range
pub asked-counts : (free : ℕ → Bool) (from to : ℕ) (p : Point) (ps : List Point) (s : SplitFigures) → AreSplit free from to p ps s
    → (least_count s ≤ length (asked from to (p ∷ ps))) × (length (asked from to (p ∷ ps)) ≤ greatest_count s)
asked-counts free from to p [] s split = absurd (omega (arith, split.more))
asked-counts free from to p (q ∷ qs) s split =
    let rising = split.rising in
    let rest = others free from to s.min s.max (p.0 + 1) q qs rising.4 in
    let after = time_at_end-after free s.min s.max (p.0 + 1) q qs rising.4 in
    let count = ap (λ (f : SplitFigures). f.count) split.is in
    let ends = ap (λ (f : SplitFigures). f.ends) split.is in
    let inside = ap (λ (f : SplitFigures). f.inside) split.is in
    let outside = ap (λ (f : SplitFigures). f.outside) split.is in
    let more : time_at_end q.0 qs - 1 + 1 ≡ time_at_end q.0 qs = omega (arith, rising.4.0) in
    let inside = rw more at inside in
    let outside = rw more at outside in
    let first = asked-next p (filter (λ v. lies_in from to v.0) (q ∷ qs)) (lies_in from to p.0) in
    (omega (arith, rest.all, rest.some, rest.not_in_range), omega (arith, rest.all, rest.some, rest.in_range))
