-- How much the windows that a range splits leave open of a count.
use Rattle.std.proofs.Common.{ℕ, ◌≡◌, ◌+◌, ◌-◌, ◌<◌, ◌≤◌, inl, inr, true, false, List, [], ◌∷◌, ◌++◌, length, take, drop, refl, ap, ◌∙◌, arith}
use Rattle.std.proofs.Common.{length-append}
use Rattle.std.specs.Prelude.{All, Bool, ◌||◌, sum_by, if◌then◌else◌}
use Rattle.std.proofs.lemmas.Bool.{cases_Bool, cases_lt}
use Rattle.std.proofs.lemmas.Bool.Decides.{nat_tests}
use Rattle.std.proofs.lemmas.List.Elements.{All-get_or, All-head, All-tail}
use Rattle.std.proofs.lemmas.List.Sums.{sum_by-cons}
use Rattle.ss_bounds.specs.Split.{SplitFigures, greatest_count, least_count}
use Rattle.ss_landmarks.specs.Free.{is_free}
use Rattle.ss_laws.specs.Ages.{cuts, is_cut, open_at, values_since}
use Rattle.ss_model.specs.Boundaries.{boundaries}
use Rattle.ss_model.specs.Closed.{last_position}
use Rattle.ss_model.specs.Decay.{IsWithinTarget}
use Rattle.ss_model.specs.History.{Happened, landmarks_of, values_of}
use Rattle.ss_model.specs.Interval.{interval_of_count, is_split, split_figures, split_windows}
use Rattle.ss_model.specs.Marks.{marked_values}
use Rattle.ss_model.specs.Refusals.{IsHistory}
use Rattle.ss_model.specs.Standing.{IsStream}
use Rattle.ss_targets.specs.Rule.{Rule, rule_of}
use Rattle.ss_model.specs.State.{Stream, state}
use Rattle.ss_model.specs.Truth.{RiseAtFree}
use Rattle.ss_model.specs.Windows.{stretches, time_at, windows}
use Rattle.ss_model.specs.declared.types.Window.{Window}
use Rattle.ss_model.proofs.DecayLemmas.{IsWithinTarget-windows}
use Rattle.ss_model.proofs.HistoryLemmas.{IsState-state}
use Rattle.ss_model.proofs.IntervalLemmas.{AreExactlyOf}
use Rattle.ss_model.proofs.PieceLemmas.{AreExactlyOf-windows}
use Rattle.ss_model.proofs.ReadLemmas.{All-state}
use Rattle.ss_model.proofs.RisingLemmas.{values-rise}
use Rattle.ss_model.proofs.Rises.{Rises, Rises-low, Rises-boundaries}
use Rattle.ss_model.proofs.Stretches.{count-summary_of, length-back, length-front}
use Rattle.ss_model.proofs.AskedLemmas.{time_at_end-after}
use Rattle.ss_summary.specs.Figures.{Figures}
use Rattle.ss_summary.specs.Points.{Point}
use Rattle.ss_summary.specs.Summaries.{summary_of, time_at_end}
use Rattle.ss_targets.specs.Lengths.{has_target, lengths_of}
use Rattle.ss_targets.proofs.LengthLemmas.{lengths_of-never_fall, lengths_of-positive}
use Rattle.ss_targets.specs.Windowing.{ArePositive, NeverFall}
use Rattle.ss_targets.specs.WindowingLaws.{window_index-monotone}
use Rattle.ss_targets.proofs.FirstFitLemmas.{lengths-monotone}

-- how many values have a time or a later one, of two lists
since-append : (t : ℕ) (xs ys : List Point) → values_since t (xs ++ ys) ≡ values_since t xs + values_since t ys
since-append t [] ys = omega arith
since-append t (p ∷ ps) ys = omega (arith, since-append t ps ys)

-- where all have: each of them
all-since : (free : ℕ → Bool) (t start : ℕ) (values : List Point) → t ≤ start → RiseAtFree free start values → values_since t values ≡ length values
all-since free t start [] later rising = refl
all-since free t start (p ∷ ps) later rising =
    let behind = all-since free t (p.0 + 1) ps (omega (arith, rising.0)) rising.2 in
    let first = rising.0 in
    grind (arith, nat_tests, behind, first)

-- where the last one hasn't: none
none-since : (free : ℕ → Bool) (t start : ℕ) (p : Point) (ps : List Point) → time_at_end p.0 ps < t → RiseAtFree free start (p ∷ ps)
    → values_since t (p ∷ ps) ≡ 0
none-since free t start p [] early rising = grind (arith, nat_tests, early)
none-since free t start p (q ∷ qs) early rising =
    let behind = none-since free t (p.0 + 1) q qs early rising.2 in
    let order = time_at_end-after free q qs rising.2.2 in
    let next = rising.2.0 in
    let before : p.0 < t = omega arith in
    grind (arith, nat_tests, behind, before)

-- where it has: at least that one
some-since : (t : ℕ) (p : Point) (ps : List Point) → t ≤ time_at_end p.0 ps → 1 ≤ values_since t (p ∷ ps)
some-since t p [] late = grind (arith, nat_tests, late)
some-since t p (q ∷ qs) late = omega (arith, some-since t q qs late)

-- the values behind the first ones rise from the last of those on
rises-behind : (free : ℕ → Bool) (start : ℕ) (p : Point) (ps rest : List Point) → RiseAtFree free start ((p ∷ ps) ++ rest)
    → RiseAtFree free (time_at_end p.0 ps + 1) rest
rises-behind free start p [] rest rising = rising.2
rises-behind free start p (q ∷ qs) rest rising = rises-behind free (p.0 + 1) q qs rest rising.2

rises-before : (free : ℕ → Bool) (start : ℕ) (xs rest : List Point) → RiseAtFree free start (xs ++ rest) → RiseAtFree free start xs
rises-before free start [] rest rising = tt
rises-before free start (p ∷ ps) rest rising = (rising.0, rising.1, rises-before free (p.0 + 1) ps rest rising.2)

-- windows one after the other from a position on
abbrev InPlace : ℕ → List Window → Type 0
InPlace first [] = Unit {0}
InPlace first (w ∷ ws) = (w.first ≡ first) × InPlace (first + w.summary.count) ws

in-place-stretches : (before end : ℕ) (bs : List ℕ) (values : List Point) → before + length values ≡ end → Rises before bs end →
    InPlace (before + 1) (stretches (before + 1) bs values)
in-place-stretches before end bs [] count rising = tt
in-place-stretches before end [] (p ∷ ps) count rising = (refl, tt)
in-place-stretches before end (b ∷ bs) (p ∷ ps) count rising =
    let k = b + 1 - (before + 1) in
    let above = rising.0 in
    let below = Rises-low b bs end rising.1 in
    let front = length-front before b end (p ∷ ps) count above below in
    let back = length-back before b end (p ∷ ps) count above below in
    let front_count = count-summary_of (take k (p ∷ ps)) in
    let next : before + 1 + (summary_of (take k (p ∷ ps))).count ≡ b + 1 = omega arith in
    (refl, rw next (in-place-stretches b end bs (drop k (p ∷ ps)) back rising.1))

in-place-windows : (rule : Rule) (values : List Point) → InPlace 1 (windows rule values)
in-place-windows rule [] = tt
in-place-windows rule (p ∷ ps) =
    in-place-stretches 0 (length (p ∷ ps)) (boundaries rule (time_at (p ∷ ps)) (length (p ∷ ps))) (p ∷ ps) (omega arith)
    (Rises-boundaries rule (time_at (p ∷ ps)) (length (p ∷ ps)) (omega arith))

-- how many values the windows that a time cuts have between their first and their last
abbrev pub inner : Window → ℕ
inner w = w.summary.count - 2

abbrev pub cut_inner : ℕ → List Window → ℕ
cut_inner t [] = 0
cut_inner t (w ∷ ws) = (if is_cut t w then inner w else 0) + cut_inner t ws

-- a window that a time cuts, and one that it doesn't
inner-cut : (t : ℕ) (w : Window) (ws : List Window) → w.summary.t_first < t → t ≤ w.summary.t_last →
    (cut_inner t (w ∷ ws) ≡ inner w + cut_inner t ws) × (cuts t (w ∷ ws) ≡ true)
inner-cut t w ws begun unended = (
  let cut : is_cut t w ≡ true = grind (arith, nat_tests, begun, unended) in rw cut refl,
  let cut : is_cut t w ≡ true = grind (arith, nat_tests, begun, unended) in rw cut refl,
)

inner-later : (t : ℕ) (w : Window) (ws : List Window) → t ≤ w.summary.t_first →
    (cut_inner t (w ∷ ws) ≡ cut_inner t ws) × (cuts t (w ∷ ws) ≡ cuts t ws)
inner-later t w ws later = (
  let uncut : is_cut t w ≡ false = grind (arith, nat_tests, later) in rw uncut (omega arith),
  let uncut : is_cut t w ≡ false = grind (arith, nat_tests, later) in rw uncut refl,
)

inner-earlier : (t : ℕ) (w : Window) (ws : List Window) → w.summary.t_last < t →
    (cut_inner t (w ∷ ws) ≡ cut_inner t ws) × (cuts t (w ∷ ws) ≡ cuts t ws)
inner-earlier t w ws ended = (
  let uncut : is_cut t w ≡ false = grind (arith, nat_tests, ended) in rw uncut (omega arith),
  let uncut : is_cut t w ≡ false = grind (arith, nat_tests, ended) in rw uncut refl,
)

-- what a window has of its values
record IsOf (w : Window) (p : Point) (ps : List Point) : Type 0 where
  count : w.summary.count ≡ length (p ∷ ps)
  first : w.summary.t_first ≡ p.0
  last : w.summary.t_last ≡ time_at_end p.0 ps

is-of : (w : Window) (p : Point) (ps : List Point) → w.summary ≡ summary_of (p ∷ ps) → IsOf w p ps
is-of w p ps is = record {
  count = ap (λ (f : Figures). f.count) is;
  first = ap (λ (f : Figures). f.t_first) is;
  last = ap (λ (f : Figures). f.t_last) is;
}

-- windows of values from a time on aren't cut by it
uncut-later : (free : ℕ → Bool) (t start : ℕ) (ws : List Window) (values : List Point) → t ≤ start → AreExactlyOf ws values
    → RiseAtFree free start values → cut_inner t ws ≡ 0
uncut-later free t start [] values later of rising = refl
uncut-later free t start (w ∷ ws) values later of rising =
    let p = of.0 in
    let ps = of.1 in
    let rest = of.2 in
    let is = is-of w p ps of.4 in
    let rises = rw of.3 at rising in
    let first : start ≤ p.0 = rises.0 in
    let order = time_at_end-after free p ps (rises-before free start (p ∷ ps) rest rises).2 in
    let behind = uncut-later free t (time_at_end p.0 ps + 1) ws rest (omega arith) of.5 (rises-behind free start p ps rest rises) in
    (inner-later t w ws (omega (arith, is.first))).0 ∙ behind

module _ (len : ℕ → ℕ) (never_falls : NeverFall len) (free : ℕ → Bool) (t n : ℕ) where
  -- what is open by windows of these values, at these positions
  abbrev Open : ℕ → List Window → List Point → Type 0
  Open first ws values = cut_inner t ws ≤ open_at len t values ws

  open-cut : (w : Window) (ws : List Window) (p : Point) (ps rest : List Point) → IsOf w p ps → p.0 < t → t ≤ time_at_end p.0 ps →
      w.first + length ((p ∷ ps) ++ rest) ≡ n + 1 → IsWithinTarget len n w → cut_inner t ws ≡ 0 → values_since t rest ≡ length rest →
      cut_inner t (w ∷ ws) ≤ open_at len t ((p ∷ ps) ++ rest) (w ∷ ws)
  open-cut w ws p ps rest is begun unended count within none all =
      let cut = inner-cut t w ws (omega (arith, is.first)) (omega (arith, is.last)) in
      let since = since-append t (p ∷ ps) rest in
      let some = some-since t p ps unended in
      let long = length-append (p ∷ ps) rest in
      let age : n - last_position w ≤ values_since t ((p ∷ ps) ++ rest) - 1 = omega (arith, is.count) in
      let longer = lengths-monotone len _ _ never_falls (window_index-monotone len _ _ age) in
      rw (cut.0, cut.1, none) (omega (arith, within, longer))

  open-earlier : (w : Window) (ws : List Window) (p : Point) (ps rest : List Point) → IsOf w p ps → time_at_end p.0 ps < t →
      values_since t (p ∷ ps) ≡ 0 → cut_inner t ws ≤ open_at len t rest ws → cut_inner t (w ∷ ws) ≤ open_at len t ((p ∷ ps) ++ rest) (w ∷ ws)
  open-earlier w ws p ps rest is ended none behind =
      let uncut = inner-earlier t w ws (omega (arith, is.last)) in
      let since : values_since t ((p ∷ ps) ++ rest) ≡ values_since t rest = omega (arith, since-append t (p ∷ ps) rest, none) in
      rw (uncut.0, uncut.1, since) behind

  open-later : (w : Window) (ws : List Window) (values : List Point) → t ≤ w.summary.t_first → cut_inner t ws ≡ 0 →
      cut_inner t (w ∷ ws) ≤ open_at len t values (w ∷ ws)
  open-later w ws values later none = rw ((inner-later t w ws later).0, none) (omega arith)

  open-all : (first start : ℕ) (ws : List Window) (values : List Point) → AreExactlyOf ws values → RiseAtFree free start values →
      InPlace first ws → first + length values ≡ n + 1 → All (IsWithinTarget len n) ws → cut_inner t ws ≤ open_at len t values ws
  open-all first start [] values of rising place count within = omega arith
  open-all first start (w ∷ ws) values of rising place count within =
      let p = of.0 in
      let ps = of.1 in
      let rest = of.2 in
      let is = is-of w p ps of.4 in
      let rises = rw of.3 at rising in
      let count = rw of.3 at count in
      let behind = rises-behind free start p ps rest rises in
      let before = rises-before free start (p ∷ ps) rest rises in
      let order = time_at_end-after free p ps before.2 in
      let long = length-append (p ∷ ps) rest in
      rw of.3 (elim (cases_lt p.0 t) [
        | inl begun ↦ elim (cases_lt (time_at_end p.0 ps) t) [
          | inl ended ↦ open-earlier w ws p ps rest is ended (none-since free t start p ps ended before)
              (open-all (first + w.summary.count) (time_at_end p.0 ps + 1) ws rest of.5 behind place.1 (omega (arith, is.count))
              (All-tail (IsWithinTarget len n) w ws within))
          | inr unended ↦ open-cut w ws p ps rest is begun unended (omega (arith, place.0)) (All-head (IsWithinTarget len n) w ws within)
              (uncut-later free t (time_at_end p.0 ps + 1) ws rest (omega arith) of.5 behind)
              (all-since free t (time_at_end p.0 ps + 1) rest (omega arith) behind)
        ]
        | inr later ↦ open-later w ws ((p ∷ ps) ++ rest) (omega (arith, is.first))
            (uncut-later free t (time_at_end p.0 ps + 1) ws rest (omega arith) of.5 behind)
      ])

-- one time cuts one window at most, which is no longer than the target at its age
pub open-windows : (rule : Rule) (free : ℕ → Bool) (t : ℕ) (values : List Point) → ArePositive rule.lengths → NeverFall rule.lengths →
    RiseAtFree free 0 values → cut_inner t (windows rule values) ≤ open_at rule.lengths t values (windows rule values)
open-windows rule free t values full never_falls rising =
    open-all rule.lengths never_falls free t (length values) 1 0 (windows rule values) values (AreExactlyOf-windows rule values) rising
    (in-place-windows rule values) (omega arith) (IsWithinTarget-windows rule values full never_falls)

-- a window that a range splits is cut by one of its ends
split-cut : (from to : ℕ) (w : Window) → from ≤ to → is_split from to w ≡ true → (is_cut from w || is_cut (to + 1) w) ≡ true
split-cut from to w order split = grind (arith, nat_tests, order, split)

-- a count of a split window is left open by no more than its values between the first and the last
split-open : (s : SplitFigures) → greatest_count s ≤ least_count s + (s.count - 2)
split-open s = omega arith

-- what one of two ends cuts is counted once at least
inner-once : (a b : Bool) (n : ℕ) → (a || b) ≡ true → n ≤ (if a then n else 0) + (if b then n else 0)
inner-once true b n one = omega arith
inner-once false true n one = omega arith
inner-once false false n one = (let wrong : false ≡ true = one in cc)

counts-split : (free : ℕ → Bool) (from to : ℕ) (w : Window) (ws : List Window) → from ≤ to → is_split from to w ≡ true →
    sum_by greatest_count (split_windows free from to ws) ≤
    sum_by least_count (split_windows free from to ws) + (cut_inner from ws + cut_inner (to + 1) ws) →
    sum_by greatest_count (split_windows free from to (w ∷ ws)) ≤
    sum_by least_count (split_windows free from to (w ∷ ws)) + (cut_inner from (w ∷ ws) + cut_inner (to + 1) (w ∷ ws))
counts-split free from to w ws order split behind =
    let s = split_figures free from to w in
    let once = inner-once (is_cut from w) (is_cut (to + 1) w) (inner w) (split-cut from to w order split) in
    let more = sum_by-cons greatest_count s (split_windows free from to ws) in
    let less = sum_by-cons least_count s (split_windows free from to ws) in
    rw split (omega (arith, behind, once, more, less, split-open s))

pub counts-open : (free : ℕ → Bool) (from to : ℕ) (ws : List Window) → from ≤ to →
    sum_by greatest_count (split_windows free from to ws) ≤
    sum_by least_count (split_windows free from to ws) + (cut_inner from ws + cut_inner (to + 1) ws)
counts-open free from to [] order = omega arith
counts-open free from to (w ∷ ws) order = elim (cases_Bool (is_split from to w)) [
  | inl split ↦ counts-split free from to w ws order split (counts-open free from to ws order)
  | inr whole ↦ (let behind = counts-open free from to ws order in rw whole (omega (arith, behind)))
]

pub count-width : (rule : Rule) (free : ℕ → Bool) (from to : ℕ) (plain marked : List Point) → ArePositive rule.lengths → NeverFall rule.lengths →
    RiseAtFree free 0 plain → from ≤ to → let len = rule.lengths in let ws = windows rule plain in
    let answer = interval_of_count free from to ws marked in
    answer.1 ≤ answer.0 + open_at len from plain ws + open_at len (to + 1) plain ws
count-width rule free from to plain marked full never_falls rising order =
    omega (
      arith,
      counts-open free from to (windows rule plain) order,
      open-windows rule free from plain full never_falls rising,
      open-windows rule free (to + 1) plain full never_falls rising,
    )

-- the same of a stream in the state of a history
abbrev pub IsAsWide : List Happened → ℕ → ℕ → Stream → Type 0
IsAsWide history from to s = let plain = values_of history s.name in let len = lengths_of s.params in
    let answer = interval_of_count (is_free s.landmarks) from to s.windows (marked_values s.landmarks) in
    answer.1 ≤ answer.0 + open_at len from plain s.windows + open_at len (to + 1) plain s.windows

pub count-width-state : (history : List Happened) (from to : ℕ) → IsHistory history → from ≤ to → All (IsAsWide history from to) (state history)
count-width-state history from to whole order = λ k d inside.
    let has = All-get_or IsStream (state history) k d inside (IsState-state history whole).each in
    All-get_or (λ s. has_target s.params ≡ true → IsAsWide history from to s) (state history) k d inside
    (All-state (λ s. has_target s.params ≡ true → IsAsWide history from to s) history
    (λ c target. count-width (rule_of c.params) (is_free (landmarks_of history c.name)) from to (values_of history c.name)
    (marked_values (landmarks_of history c.name)) (lengths_of-positive c.params target) (lengths_of-never_fall c.params target)
    (values-rise history c.name whole) order))
    has.target
