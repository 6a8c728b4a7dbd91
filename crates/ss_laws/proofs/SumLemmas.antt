-- How much a split window leaves open of a sum.
use Rattle.std.proofs.Common.{ℕ, zero, suc, ◌≡◌, ◌+◌, ◌-◌, ◌≤◌, arith}
use Rattle.std.specs.Prelude.{All, List, [], ◌∷◌, map, ℤ, pos, ◌+ℤ◌, ◌*ℤ◌, ◌≤ℤ◌}
use Rattle.std.specs.Int.{int_max, int_min}
use Rattle.std.proofs.lemmas.Int.{ints, clamps}
use Rattle.ss_bounds.proofs.Numbers.{minus-times, times-minus}
use Rattle.ss_bounds.specs.Split.{SplitFigures, IsSplit, greatest_count, greatest_of, high_sum, least_count, least_of, low_sum, sum_interval}
use Rattle.ss_bounds.specs.Guess.{AreAllSplit}
use Rattle.ss_bounds.specs.Truth.{total}
use Rattle.ss_landmarks.specs.Free.{is_free}
use Rattle.ss_laws.specs.Ages.{open_sum, open_sums}
use Rattle.ss_model.proofs.HistoryLemmas.{IsState-state}
use Rattle.ss_model.proofs.SplitLemmas.{AreAllSplit-stream}
use Rattle.ss_model.specs.History.{Happened}
use Rattle.ss_model.specs.Interval.{interval_of_sum, split_windows}
use Rattle.ss_model.specs.Marks.{marked_values}
use Rattle.ss_model.specs.Refusals.{IsHistory}
use Rattle.ss_model.specs.Standing.{IsStream}
use Rattle.ss_model.specs.State.{Stream, state}
use Rattle.std.proofs.lemmas.List.Elements.{All-weaker}
use Rattle.ss_summary.proofs.Bounds.{times-le-times}

none-times : (n : ℕ) → (pos n *ℤ pos 0) ≡ pos 0
none-times n = omega (arith, ints)

-- what each of a row of numbers is at least, the least of them is; and likewise the greatest
least_of-above : (f : ℕ → ℤ) (a n : ℕ) (v : ℤ) → ((k : ℕ) → a ≤ k → k ≤ a + n → v ≤ℤ f k) → v ≤ℤ least_of f a n
least_of-above f a zero v above = above a (omega arith) (omega arith)
least_of-above f a (suc n) v above =
    let before = least_of-above f a n v (λ k from to. above k from (omega arith)) in
    let last = above (a + suc n) (omega arith) (omega arith) in
    omega (arith, ints, clamps, before, last)

greatest_of-below : (f : ℕ → ℤ) (a n : ℕ) (v : ℤ) → ((k : ℕ) → a ≤ k → k ≤ a + n → f k ≤ℤ v) → greatest_of f a n ≤ℤ v
greatest_of-below f a zero v below = below a (omega arith) (omega arith)
greatest_of-below f a (suc n) v below =
    let before = greatest_of-below f a n v (λ k from to. below k from (omega arith)) in
    let last = below (a + suc n) (omega arith) (omega arith) in
    omega (arith, ints, clamps, before, last)

-- so many values make at least the most of them with their least value, or with 0 where that is less; and likewise at most
low-few : (x c : ℕ) (m : ℤ) → x ≤ c → (pos c *ℤ int_min (pos 0) m) ≤ℤ (pos x *ℤ m)
low-few x c m few =
    let low = int_min (pos 0) m in
    let under : low ≤ℤ m = omega (arith, ints, clamps) in
    let negative : low ≤ℤ pos 0 = omega (arith, ints, clamps) in
    omega (arith, ints, times-le-times x low m under, times-le-times (c - x) low (pos 0) negative, minus-times c x low few, none-times (c - x))

high-few : (x c : ℕ) (m : ℤ) → x ≤ c → (pos x *ℤ m) ≤ℤ (pos c *ℤ int_max (pos 0) m)
high-few x c m few =
    let high = int_max (pos 0) m in
    let over : m ≤ℤ high = omega (arith, ints, clamps) in
    let positive : pos 0 ≤ℤ high = omega (arith, ints, clamps) in
    omega (arith, ints, times-le-times x m high over, times-le-times (c - x) (pos 0) high positive, minus-times c x high few, none-times (c - x))

pub sum-width : (s : SplitFigures) → IsSplit s →
    (sum_interval s).1 ≤ℤ ((sum_interval s).0 +ℤ open_sum s)
unfolding sum_interval
sum-width s is =
    let c = s.count - 1 in
    let a = least_count s in
    let n = greatest_count s - least_count s in
    let most : a + n ≤ c = omega (arith, is.count_low, is.one_end) in
    let low = least_of-above (low_sum s) a n (pos c *ℤ int_min (pos 0) s.min)
    (λ k from to. omega (arith, ints, clamps, low-few k c s.min (omega arith))) in
    let high = greatest_of-below (high_sum s) a n (pos c *ℤ int_max (pos 0) s.max)
    (λ k from to. omega (arith, ints, clamps, high-few k c s.max (omega arith))) in
    omega (arith, ints, low, high, times-minus c (int_max (pos 0) s.max) (int_min (pos 0) s.min))

-- and several of them
sums-width : (splits : List SplitFigures) → AreAllSplit splits → total (map (λ (i : ℤ × ℤ). i.1) (map sum_interval splits)) ≤ℤ
    (total (map (λ (i : ℤ × ℤ). i.0) (map sum_interval splits)) +ℤ open_sums splits)
sums-width [] all = omega (arith, ints)
sums-width (s ∷ ss) all = omega (arith, ints, sum-width s all.0, sums-width ss all.1)

-- so a sum of a stream in the state of a history
abbrev IsSumAsWide : ℕ → ℕ → Stream → Type 0
IsSumAsWide from to s =
    let answer = interval_of_sum (is_free s.landmarks) from to s.windows (marked_values s.landmarks) in
    answer.1 ≤ℤ (answer.0 +ℤ open_sums (split_windows (is_free s.landmarks) from to s.windows))

sum-width-stream : (from to : ℕ) (s : Stream) → IsStream s → IsSumAsWide from to s
sum-width-stream from to s is =
    omega (arith, ints, sums-width (split_windows (is_free s.landmarks) from to s.windows) (AreAllSplit-stream s from to is))

pub sum-width-state : (history : List Happened) (from to : ℕ) → IsHistory history → All (IsSumAsWide from to) (state history)
sum-width-state history from to whole =
    All-weaker IsStream (IsSumAsWide from to) (sum-width-stream from to) (state history) (IsState-state history whole).each
