-- The figures of windows that a range splits are those of windows that a range may split.
use Rattle.ss_model.proofs.Common.{◌≡◌, ℕ, ◌+◌, ◌-◌, ◌<◌, ◌≤◌, List, [], ◌∷◌, arith, inl, inr, true, ◌||◌, nat_le, nat_lt, list_all, and_parts, cases_Bool}
use Rattle.ss_model.proofs.Common.{cases_lt, nat_tests, AreAllSplit, free, is_free, Landmark, free-add, is_split, split_figures, split_windows, lies_free}
use Rattle.ss_model.proofs.Common.{IsStream, Stream, StandFrom, Window, IsPossible}
use Rattle.std.proofs.Common.{IsTrue}
use Rattle.std.specs.Prelude.{◌&&◌, not}
use Rattle.ss_bounds.specs.Split.{IsSplit}
use Rattle.ss_bounds.proofs.RangeLemmas.{IsSplit-split_of}
use Rattle.ss_landmarks.proofs.TimeLemmas.{free-le}
use Rattle.ss_model.proofs.MarkLemmas.{LiesFree-lies_free}

-- where a window lies to the range
pub record Lies (from to first last : ℕ) : Type 0 where
  pub ends : from ≤ last
  pub begins : first ≤ to
  pub out : ¬ ((from ≤ first) × (last ≤ to))

pub lies : (from to first last : ℕ) → (not (nat_le from first && nat_le last to) && not (nat_lt last from || nat_lt to first)) ≡ true → Lies from to first last
lies from to first last split = record {
  ends = grind (arith, nat_tests);
  begins = grind (arith, nat_tests);
  out = λ both. let one = both.0 in let two = both.1 in grind (arith, nat_tests);
}

-- a window that a range splits has two values or more
two-or-more : (from to count first last : ℕ) → 1 ≤ count → (count ≡ 1 → first ≡ last) → from ≤ last → first ≤ to → ¬ ((from ≤ first) × (last ≤ to)) → 2 ≤ count
two-or-more from to count first last some one ends begins out = elim (cases_lt 1 count) [
  | inl more ↦ omega arith
  | inr less ↦ (let same = one (omega arith) in absurd (out (omega arith, omega arith)))
]

-- there is a free time for each value between the first and the last
free-between : (landmarks : List Landmark) (count first last : ℕ) → first < last → count ≤ free landmarks first last →
    count - 2 ≤ free landmarks (first + 1) (last - 1)
free-between landmarks count first last rising few =
    let front = free-add landmarks first first last (omega arith) (omega arith) in
    let back = free-add landmarks (first + 1) (last - 1) last (omega arith) (omega arith) in
    let one = free-le landmarks first first in
    let other = free-le landmarks (last - 1 + 1) last in
    omega (arith, few, front, back, one, other)

pub IsSplit-window : (landmarks : List Landmark) (from to : ℕ) (w : Window) → IsTrue (is_split from to w) → IsTrue (lies_free landmarks w) →
    IsPossible w.summary → IsSplit (split_figures (is_free landmarks) from to w)
IsSplit-window landmarks from to w split is_in possible =
    let place = lies from to w.summary.t_first w.summary.t_last split in
    let free = LiesFree-lies_free landmarks w is_in in
    let more = two-or-more from to w.summary.count w.summary.t_first w.summary.t_last possible.count_low possible.one place.ends place.begins place.out in
    let rising : w.summary.t_first < w.summary.t_last = omega (arith, more, possible.times) in
    IsSplit-split_of (is_free landmarks) from to w.summary.count w.summary.sum w.summary.min w.summary.max w.summary.t_first w.summary.t_last
    more possible.count_high possible.min_fits possible.max_fits possible.order possible.sum_low possible.sum_high (omega arith) possible.last place.out
    (free-between landmarks w.summary.count w.summary.t_first w.summary.t_last rising free.few)

AreAllSplit-stand : (landmarks : List Landmark) (from to first time : ℕ) (ws : List Window) → StandFrom first time ws
    → IsTrue (list_all (lies_free landmarks) ws) → AreAllSplit (split_windows (is_free landmarks) from to ws)
AreAllSplit-stand landmarks from to first time [] stand free = tt
AreAllSplit-stand landmarks from to first time (w ∷ ws) stand free =
    let both = and_parts (lies_free landmarks w) (list_all (lies_free landmarks) ws) free in
    let rest = AreAllSplit-stand landmarks from to (first + w.summary.count) (w.summary.t_last + 1) ws stand.3 both.1 in
    elim (cases_Bool (is_split from to w)) [
      | inl is ↦ rw is (IsSplit-window landmarks from to w is both.0 stand.1, rest)
      | inr not_is ↦ rw not_is rest
    ]

-- so are those of all windows of a stream
pub AreAllSplit-stream : (s : Stream) (from to : ℕ) → IsStream s → AreAllSplit (split_windows (is_free s.landmarks) from to s.windows)
AreAllSplit-stream s from to is = AreAllSplit-stand s.landmarks from to 1 0 s.windows is.windows.stand is.free
