-- The answer to a query: an interval, from the windows of a stream, the values of its landmarks, and which times are free.
use Rattle.std.specs.Prelude.{◌≡◌, ℕ, ◌+◌, Bool, ◌&&◌, ◌||◌, not, nat_le, nat_lt, if◌then◌else◌, ℤ, ◌+ℤ◌, int_le, List, ◌++◌, length, map, sum_by}
use Rattle.std.specs.Ordering.{int_eq}
use Rattle.std.specs.List.{filter, list_any}
use Rattle.ss_summary.specs.Figures.{Figures}
use Rattle.ss_summary.specs.Filters.{has}
use Rattle.ss_bounds.specs.declared.extreme.Extreme.{Extreme}
use Rattle.ss_bounds.specs.declared.extreme.Extreme.TheVariants as extremes
use Rattle.ss_bounds.specs.Split.{SplitFigures, least_count, greatest_count, sum_interval}
use Rattle.ss_bounds.specs.Times.{split_of}
use Rattle.ss_bounds.specs.Extremes.{min_interval, max_interval}
use Rattle.ss_bounds.specs.Either.{least_in, greatest_in}
use Rattle.ss_bounds.specs.declared.fraction.Fraction.{Fraction}
use Rattle.ss_bounds.specs.declared.mean.Mean.{Mean}
use Rattle.ss_bounds.specs.declared.mean.Mean.TheVariants as means
use Rattle.ss_bounds.specs.declared.mean.MeanGuess.{MeanGuess}
use Rattle.ss_bounds.specs.declared.mean.MeanGuess.TheVariants as guesses
use Rattle.ss_bounds.specs.MeanGuess.{mean_guess}
use Rattle.ss_bounds.specs.Means.{mean_interval}
use Rattle.ss_bounds.specs.Truth.{asked, total}
use Rattle.ss_summary.specs.Points.{Point}
use Rattle.ss_model.specs.Truth.{is_one_of}
use Rattle.ss_model.specs.declared.outcome.Presence.{Presence}
use Rattle.ss_model.specs.declared.outcome.Presence.TheVariants.{Absent, Present, Maybe}
use Rattle.ss_model.specs.declared.types.Window.{Window}

-- all times of a window lie in from..=to, or none does; otherwise the range splits it
abbrev pub is_whole : ℕ → ℕ → Window → Bool
is_whole from to w = nat_le from w.summary.t_first && nat_le w.summary.t_last to

abbrev pub is_apart : ℕ → ℕ → Window → Bool
is_apart from to w = nat_lt w.summary.t_last from || nat_lt to w.summary.t_first

abbrev pub is_split : ℕ → ℕ → Window → Bool
is_split from to w = not (is_whole from to w) && not (is_apart from to w)

-- the windows that lie whole in the range, and the figures of those that it splits
abbrev pub whole_windows : ℕ → ℕ → List Window → List Window
whole_windows from to windows = filter (is_whole from to) windows

abbrev pub split_figures : (ℕ → Bool) → ℕ → ℕ → Window → SplitFigures
split_figures free from to w =
    split_of free from to w.summary.count w.summary.sum w.summary.min w.summary.max w.summary.t_first w.summary.t_last

abbrev pub split_windows : (ℕ → Bool) → ℕ → ℕ → List Window → List SplitFigures
split_windows free from to windows = map (split_figures free from to) (filter (is_split from to) windows)

-- what the whole windows and the values of landmarks make sure of: how many values, their sum, and the least and the
-- greatest of each window with the values one by one
abbrev pub known_count : ℕ → ℕ → List Window → List Point → ℕ
known_count from to windows marked =
    sum_by (λ (w : Window). w.summary.count) (whole_windows from to windows) + length (asked from to marked)

abbrev pub known_sum : ℕ → ℕ → List Window → List Point → ℤ
known_sum from to windows marked =
    total (map (λ (w : Window). w.summary.sum) (whole_windows from to windows)) +ℤ total (asked from to marked)

abbrev pub known_mins : ℕ → ℕ → List Window → List Point → List ℤ
known_mins from to windows marked =
    map (λ (w : Window). w.summary.min) (whole_windows from to windows) ++ asked from to marked

abbrev pub known_maxs : ℕ → ℕ → List Window → List Point → List ℤ
known_maxs from to windows marked =
    map (λ (w : Window). w.summary.max) (whole_windows from to windows) ++ asked from to marked

-- their sum and their count, of which the mean is made
abbrev pub known_values : ℕ → ℕ → List Window → List Point → Fraction
known_values from to windows marked = record { over = known_sum from to windows marked; under = known_count from to windows marked }

-- the answers
abbrev pub interval_of_count : (ℕ → Bool) → ℕ → ℕ → List Window → List Point → ℕ × ℕ
interval_of_count free from to windows marked =
    let known = known_count from to windows marked in
    let splits = split_windows free from to windows in
    (known + sum_by least_count splits, known + sum_by greatest_count splits)

abbrev pub interval_of_sum : (ℕ → Bool) → ℕ → ℕ → List Window → List Point → ℤ × ℤ
interval_of_sum free from to windows marked =
    let known = known_sum from to windows marked in
    let sums = map sum_interval (split_windows free from to windows) in
    (known +ℤ total (map (λ (s : ℤ × ℤ). s.0) sums), known +ℤ total (map (λ (s : ℤ × ℤ). s.1) sums))

abbrev pub interval_of_least : (ℕ → Bool) → ℕ → ℕ → List Window → List Point → Extreme
interval_of_least free from to windows marked =
    min_interval (least_in (known_mins from to windows marked)) (split_windows free from to windows)

abbrev pub interval_of_greatest : (ℕ → Bool) → ℕ → ℕ → List Window → List Point → Extreme
interval_of_greatest free from to windows marked =
    max_interval (greatest_in (known_maxs from to windows marked)) (split_windows free from to windows)

abbrev pub interval_of_mean : (ℕ → Bool) → ℕ → ℕ → List Window → List Point → Mean
interval_of_mean free from to windows marked = mean_interval (known_values from to windows marked) (split_windows free from to windows)

abbrev pub guess_of_mean : (ℕ → Bool) → ℕ → ℕ → List Window → List Point → MeanGuess
guess_of_mean free from to windows marked = mean_guess (known_values from to windows marked) (split_windows free from to windows)

-- a value may be one of those of a window: it isn't less than the least of them or greater than the greatest, and the filter has
-- its bit
abbrev pub may_have : ℤ → Figures → Bool
may_have v f = int_le f.min v && int_le v f.max && has f.filter v

-- a value is the least or the greatest of a window that lies whole in the range
abbrev pub is_extreme : ℕ → ℕ → ℤ → Window → Bool
is_extreme from to v w = is_whole from to w && (int_eq w.summary.min v || int_eq w.summary.max v)

-- some of the values of a window may lie in the range: it lies whole there, or it may be split so
abbrev pub may_reach : (ℕ → Bool) → ℕ → ℕ → Window → Bool
may_reach free from to w = is_whole from to w || is_split from to w && nat_le 1 (greatest_count (split_figures free from to w))

-- whether a value is there: surely, where it is the value of a landmark or an end of a whole window; else perhaps, where a window
-- may have it
abbrev pub presence_of : ℤ → (ℕ → Bool) → ℕ → ℕ → List Window → List Point → Presence
presence_of v free from to windows marked =
    if is_one_of v (asked from to marked) || list_any (is_extreme from to v) windows
    then Present
    else if list_any (λ (w : Window). may_reach free from to w && may_have v w.summary) windows
    then Maybe
    else Absent

-- what is known of a least or a greatest value leaves nothing open
abbrev pub IsExact : Extreme → Type 0
IsExact extremes.Nothing = Unit {0}
IsExact (extremes.Sure lo hi) = lo ≡ hi
IsExact (extremes.Maybe lo hi) = ⊥

-- what is known of a mean leaves nothing open
abbrev pub IsExactMean : Mean → Type 0
IsExactMean means.Nothing = Unit {0}
IsExactMean (means.Sure lo hi) = lo ≡ hi
IsExactMean (means.Maybe lo hi) = ⊥

-- with a guess, which is that number too
abbrev pub IsExactMeanGuess : MeanGuess → Type 0
IsExactMeanGuess guesses.Nothing = Unit {0}
IsExactMeanGuess (guesses.Sure lo guess hi) = (lo ≡ guess) × (guess ≡ hi)
IsExactMeanGuess (guesses.Maybe lo guess hi) = ⊥
