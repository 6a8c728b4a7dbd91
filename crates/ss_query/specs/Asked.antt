-- What a query makes of the landmarks of a stream, and of its windows, read one after the other.
use Rattle.std.specs.Prelude.{◌≡◌, ℕ, ◌+◌, ◌^◌, ◌<◌, ◌≤◌, ◌&&◌, nat_le, nat_lt, if◌then◌else◌, ℤ, pos, ◌+ℤ◌, unsigned_abs}
use Rattle.std.specs.Prelude.{List, fold, IfSome, Option, None, Some}
use Rattle.std.specs.Option.{option_map, option_map_or}
use Rattle.ss_bounds.specs.Either.{greater, lesser}
use Rattle.ss_bounds.specs.Extremes.{listed, max_interval, min_interval}
use Rattle.ss_bounds.specs.Guess.{count_guess, sum_guess}
use Rattle.ss_bounds.specs.declared.fraction.Fraction.{Fraction}
use Rattle.ss_bounds.specs.MeanGuess.{mean_guess}
use Rattle.ss_bounds.specs.Means.{mean_interval}
use Rattle.ss_bounds.specs.Split.{IsSplit, SplitFigures, count_interval, sum_interval}
use Rattle.ss_landmarks.specs.Free.{is_free}
use Rattle.ss_landmarks.specs.Landmark.{Landmark, LandmarkValue}
use Rattle.ss_landmarks.specs.ValuesIn.{is_among, tally_of, values_between}
use Rattle.ss_landmarks.specs.declared.tally.Tally.{Tally}
use Rattle.ss_catalog.specs.declared.query.Kind.{Kind}
use Rattle.ss_catalog.specs.declared.query.Kind.TheVariants as kinds
use Rattle.ss_model.specs.Closed.{last_position}
use Rattle.ss_model.specs.Interval.{is_apart, is_extreme, is_split, is_whole, may_have, may_reach, split_figures}
use Rattle.ss_model.specs.State.{Stream}
use Rattle.ss_model.specs.declared.outcome.Outcome.{Outcome}
use Rattle.ss_model.specs.declared.outcome.Outcome.TheVariants.{Count, Sum, Min, Max, Mean, Has, Estimate, MeanEstimate}
use Rattle.ss_model.specs.declared.outcome.Presence.{Presence}
use Rattle.ss_model.specs.declared.outcome.Presence.TheVariants.{Absent, Present, Maybe}
use Rattle.ss_model.specs.declared.types.Window.{Window}
use Rattle.ss_summary.specs.Figures.{Figures}
use Rattle.ss_summary.specs.Summaries.{joined}
use Rattle.ss_base.specs.declared.limits.TheConstants.{MOST_VALUES}
use Rattle.ss_query.specs.declared.asking.Seen.{Seen}
use Rattle.ss_query.specs.declared.cut.Cut.{Cut}

-- whether the value that is asked for is there, by the values of landmarks in the range alone; where none is asked for, it is absent
abbrev pub presence_of_marks : Kind → List LandmarkValue → Presence
presence_of_marks kinds.Count values = Absent
presence_of_marks kinds.Sum values = Absent
presence_of_marks kinds.Min values = Absent
presence_of_marks kinds.Max values = Absent
presence_of_marks kinds.Mean values = Absent
presence_of_marks (kinds.Has v) values = if is_among v values then Present else Absent
presence_of_marks kinds.CountGuess values = Absent
presence_of_marks kinds.SumGuess values = Absent
presence_of_marks kinds.MeanGuess values = Absent

-- before any window was read: what these values add up to, and whether the value that is asked for is one of them
abbrev pub marks_seen : Kind → List LandmarkValue → Seen
marks_seen kind values = record {
  marked = tally_of values;
  whole = None;
  left = None;
  right = None;
  presence = presence_of_marks kind values;
  taken = 0;
  next_time = 0;
}

-- a summary with the values of one more window
abbrev pub joined_with : Option Figures → Figures → Option Figures
joined_with None summary = Some summary
joined_with (Some older) summary = Some (joined older summary)

-- a window that the range splits, as it is cut: its first and last position, and its figures
abbrev pub cut_of : List Landmark → ℕ → ℕ → Window → Cut
cut_of landmarks from to w = record { first = w.first; last = last_position w; split = split_figures (is_free landmarks) from to w }

-- the whole windows with one more, if it is one; and the split windows, the one that begins before the range, and the other
abbrev pub whole_with : ℕ → ℕ → Option Figures → Window → Option Figures
whole_with from to whole w = if is_whole from to w then joined_with whole w.summary else whole

abbrev pub left_with : List Landmark → ℕ → ℕ → Option Cut → Window → Option Cut
left_with landmarks from to left w = if is_split from to w && nat_lt w.summary.t_first from then Some (cut_of landmarks from to w) else left

abbrev pub right_with : List Landmark → ℕ → ℕ → Option Cut → Window → Option Cut
right_with landmarks from to right w = if is_split from to w && nat_le from w.summary.t_first then Some (cut_of landmarks from to w) else right

-- the stronger of two things that are known of whether a value is there
abbrev pub stronger : Presence → Presence → Presence
stronger Absent other = other
stronger Present other = Present
stronger Maybe Absent = Maybe
stronger Maybe Present = Present
stronger Maybe Maybe = Maybe

-- what one window tells of it
abbrev pub presence_in : List Landmark → ℕ → ℕ → ℤ → Window → Presence
presence_in landmarks from to v w =
    if is_extreme from to v w then Present
    else if may_reach (is_free landmarks) from to w && may_have v w.summary then Maybe
    else Absent

-- what is known of the value that is asked for, with one more window
abbrev pub presence_with : List Landmark → Kind → ℕ → ℕ → Presence → Window → Presence
presence_with landmarks kinds.Count from to known w = known
presence_with landmarks kinds.Sum from to known w = known
presence_with landmarks kinds.Min from to known w = known
presence_with landmarks kinds.Max from to known w = known
presence_with landmarks kinds.Mean from to known w = known
presence_with landmarks (kinds.Has v) from to known w = stronger known (presence_in landmarks from to v w)
presence_with landmarks kinds.CountGuess from to known w = known
presence_with landmarks kinds.SumGuess from to known w = known
presence_with landmarks kinds.MeanGuess from to known w = known

-- a window may come next: it has no more values than a stream can have besides those so far, and its times are behind theirs
abbrev pub Follows : Seen → Window → Type 0
Follows seen w = (seen.taken + w.summary.count ≤ MOST_VALUES) × (seen.next_time ≤ w.summary.t_first)

-- what is known with one more window
abbrev pub seen_with : List Landmark → Kind → ℕ → ℕ → Seen → Window → Seen
seen_with landmarks kind from to seen w = record {
  marked = seen.marked;
  whole = whole_with from to seen.whole w;
  left = left_with landmarks from to seen.left w;
  right = right_with landmarks from to seen.right w;
  presence = presence_with landmarks kind from to seen.presence w;
  taken = seen.taken + w.summary.count;
  next_time = w.summary.t_last + 1;
}

-- the same of a window of the stream, whose record is read only where it has times in the range
abbrev pub seen_after : List Landmark → Kind → ℕ → ℕ → Seen → Window → Seen
seen_after landmarks kind from to seen w = if is_apart from to w then seen else seen_with landmarks kind from to seen w

-- what is known of a stream: of its landmarks, and of all its windows, oldest first
abbrev pub seen_of : Kind → ℕ → ℕ → Stream → Seen
seen_of kind from to s = fold (seen_after s.landmarks kind from to) (marks_seen kind (values_between s.landmarks from to)) s.windows

-- the values so far are no more than a stream can have, and the whole windows among them lie before the time of the next one
pub record HasRoom (seen : Seen) : Type 0 where
  pub few : seen.taken ≤ MOST_VALUES
  pub whole : IfSome seen.whole (λ f. (f.t_last < seen.next_time) × (f.count ≤ seen.taken))

-- the figures of a cut window are those of one that a range may split, and it has as many values as its positions say
pub record IsCut (cut : Cut) : Type 0 where
  pub split : IsSplit cut.split
  pub span : cut.first + cut.split.count ≡ cut.last + 1

-- so it is of both cut windows, where there are any
pub record HasCuts (seen : Seen) : Type 0 where
  pub left : IfSome seen.left IsCut
  pub right : IfSome seen.right IsCut

-- from how many to how many values of a cut window lie in the range, and from which to which sum; zeros where there is none
abbrev pub counts_of : Option Cut → ℕ × ℕ
counts_of None = (0, 0)
counts_of (Some cut) = count_interval cut.split

abbrev pub sums_of : Option Cut → ℤ × ℤ
sums_of None = (pos 0, pos 0)
sums_of (Some cut) = sum_interval cut.split

-- its figures, where there is one
abbrev pub figures_of : Option Cut → Option SplitFigures
figures_of cut = option_map (λ (c : Cut). c.split) cut

-- of the windows that lie whole in the range and of the values of landmarks in it: how many values, their sum, the least and the
-- greatest
abbrev pub seen_count : Option Figures → Tally → ℕ
seen_count whole marked = option_map_or (λ (f : Figures). f.count) whole 0 + marked.count

abbrev pub seen_sum : Option Figures → Tally → ℤ
seen_sum whole marked = option_map_or (λ (f : Figures). f.sum) whole (pos 0) +ℤ marked.sum

abbrev pub values_seen : Seen → Fraction
values_seen seen = record { over = seen_sum seen.whole seen.marked; under = seen_count seen.whole seen.marked }

abbrev pub seen_min : Option Figures → Tally → Option ℤ
seen_min whole marked = lesser (option_map (λ (f : Figures). f.min) whole) marked.least

abbrev pub seen_max : Option Figures → Tally → Option ℤ
seen_max whole marked = greater (option_map (λ (f : Figures). f.max) whole) marked.greatest

-- no more values of landmarks than are kept, with a sum of so many of 64 bits
pub record IsFewMarked (marked : Tally) : Type 0 where
  pub count : marked.count ≤ 2 ^ 24
  pub sum : unsigned_abs marked.sum ≤ 2 ^ 87

-- from how many to how many values lie in the range, and from which to which sum
abbrev pub counts_seen : Seen → ℕ × ℕ
counts_seen seen =
    let known = seen_count seen.whole seen.marked in
    (known + (counts_of seen.left).0 + (counts_of seen.right).0, known + (counts_of seen.left).1 + (counts_of seen.right).1)

abbrev pub sums_seen : Seen → ℤ × ℤ
sums_seen seen =
    let known = seen_sum seen.whole seen.marked in
    (known +ℤ (sums_of seen.left).0 +ℤ (sums_of seen.right).0, known +ℤ (sums_of seen.left).1 +ℤ (sums_of seen.right).1)

-- what is answered from what is known
abbrev pub outcome_seen : Kind → Seen → Outcome
outcome_seen kinds.Count seen = let counts = counts_seen seen in Count counts.0 counts.1
outcome_seen kinds.Sum seen = let sums = sums_seen seen in Sum sums.0 sums.1
outcome_seen kinds.Min seen = Min (min_interval (seen_min seen.whole seen.marked) (listed (figures_of seen.left) (figures_of seen.right)))
outcome_seen kinds.Max seen = Max (max_interval (seen_max seen.whole seen.marked) (listed (figures_of seen.left) (figures_of seen.right)))
outcome_seen kinds.Mean seen = Mean (mean_interval (values_seen seen) (listed (figures_of seen.left) (figures_of seen.right)))
outcome_seen (kinds.Has v) seen = Has seen.presence
outcome_seen kinds.CountGuess seen =
    let counts = counts_seen seen in
    let guess = count_guess (pos (seen_count seen.whole seen.marked)) (listed (figures_of seen.left) (figures_of seen.right)) in
    Estimate (pos counts.0) guess (pos counts.1)
outcome_seen kinds.SumGuess seen =
    let sums = sums_seen seen in
    let guess = sum_guess (seen_sum seen.whole seen.marked) (listed (figures_of seen.left) (figures_of seen.right)) in
    Estimate sums.0 guess sums.1
outcome_seen kinds.MeanGuess seen = MeanEstimate (mean_guess (values_seen seen) (listed (figures_of seen.left) (figures_of seen.right)))
