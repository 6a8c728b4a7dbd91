-- What a state answers to a query, and when that is true.
use Rattle.std.specs.Prelude.{◌≡◌, ◌⊎◌, ℕ, ◌≤◌, Bool, true, false, ℤ, pos, ◌≤ℤ◌, List, [], Option, option_map}
use Rattle.std.specs.List.{filter}
use Rattle.std.specs.Option.{option_map_or}
use Rattle.ss_catalog.specs.declared.query.Kind.{Kind}
use Rattle.ss_catalog.specs.declared.query.Kind.TheVariants as kinds
use Rattle.ss_catalog.specs.declared.query.Query.{Query}
use Rattle.ss_catalog.specs.declared.refusal.Refusal.{Refusal}
use Rattle.ss_bounds.specs.Guess.{count_guess, sum_guess}
use Rattle.ss_bounds.specs.MeanGuess.{HoldsMeanGuess, unguessed_mean}
use Rattle.ss_bounds.specs.MeanTruth.{HoldsMean}
use Rattle.ss_bounds.specs.Truth.{HoldsExtreme}
use Rattle.ss_landmarks.specs.Free.{is_free}
use Rattle.ss_summary.specs.Points.{Point}
use Rattle.ss_model.specs.Interval.{interval_of_count, interval_of_sum, interval_of_least, interval_of_greatest, is_split, known_count, known_sum, presence_of}
use Rattle.ss_model.specs.Interval.{guess_of_mean, interval_of_mean, split_windows}
use Rattle.ss_model.specs.Interval.{IsExact, IsExactMean, IsExactMeanGuess}
use Rattle.ss_model.specs.Marks.{marked_values}
use Rattle.ss_model.specs.Refusals.{first_that_applies, range_refusals, stands}
use Rattle.ss_model.specs.State.{Stream, stream_named}
use Rattle.ss_model.specs.Truth.{true_amount, true_count, true_sum, true_least, true_greatest, true_presence, true_values}
use Rattle.ss_model.specs.declared.outcome.Outcome.{Outcome}
use Rattle.ss_model.specs.declared.outcome.Outcome.TheVariants.{Count, Sum, Min, Max, Mean, Has, Estimate, MeanEstimate}
use Rattle.ss_model.specs.declared.outcome.Presence.{Presence}
use Rattle.ss_model.specs.declared.outcome.Presence.TheVariants.{Absent, Present, Maybe}
use Rattle.ss_model.specs.declared.types.Window.{Window}

-- why a query is refused in a state, where it is
unfoldable pub refuses_query : List Stream → Query → Option Refusal
refuses_query streams query = first_that_applies (range_refusals (stands query.name streams) query.from query.to)

-- the answer of what is asked for, from which times are free, the windows of a stream and the values of its landmarks
abbrev pub answer_of_kind : Kind → (ℕ → Bool) → ℕ → ℕ → List Window → List Point → Outcome
answer_of_kind kinds.Count free from to windows marked =
    let counts = interval_of_count free from to windows marked in Count counts.0 counts.1
answer_of_kind kinds.Sum free from to windows marked =
    let sums = interval_of_sum free from to windows marked in Sum sums.0 sums.1
answer_of_kind kinds.Min free from to windows marked = Min (interval_of_least free from to windows marked)
answer_of_kind kinds.Max free from to windows marked = Max (interval_of_greatest free from to windows marked)
answer_of_kind kinds.Mean free from to windows marked = Mean (interval_of_mean free from to windows marked)
answer_of_kind (kinds.Has value) free from to windows marked = Has (presence_of value free from to windows marked)
answer_of_kind kinds.CountGuess free from to windows marked =
    let counts = interval_of_count free from to windows marked in
    Estimate (pos counts.0) (count_guess (pos (known_count from to windows marked)) (split_windows free from to windows)) (pos counts.1)
answer_of_kind kinds.SumGuess free from to windows marked =
    let sums = interval_of_sum free from to windows marked in
    Estimate sums.0 (sum_guess (known_sum from to windows marked) (split_windows free from to windows)) sums.1
answer_of_kind kinds.MeanGuess free from to windows marked = MeanEstimate (guess_of_mean free from to windows marked)

-- the answer of a stream
abbrev pub answer_of : Query → Stream → Outcome
answer_of query s = answer_of_kind query.kind (is_free s.landmarks) query.from query.to s.windows (marked_values s.landmarks)

-- the answer of a state, where the stream stands
unfoldable pub outcome_of : List Stream → Query → Option Outcome
outcome_of streams query = option_map (answer_of query) (stream_named query.name streams)

-- the query that is answered by the interval alone, where this one is answered by a guess too
abbrev pub unguessed : Kind → Kind
unguessed kinds.CountGuess = kinds.Count
unguessed kinds.SumGuess = kinds.Sum
unguessed kinds.MeanGuess = kinds.Mean
unguessed kind = kind

abbrev pub interval_query : Query → Query
interval_query query = record { name = query.name; kind = unguessed query.kind; from = query.from; to = query.to }

-- an answer with a guess has the same ends as one by an interval
abbrev pub HasEnds : Outcome → Outcome → Type 0
HasEnds (Estimate lo guess hi) (Count least most) = (lo ≡ pos least) × (hi ≡ pos most)
HasEnds (Estimate lo guess hi) (Sum least most) = (lo ≡ least) × (hi ≡ most)
HasEnds (MeanEstimate g) (Mean m) = unguessed_mean g ≡ m
HasEnds _ _ = ⊥

-- the windows of the stream that the range splits
abbrev pub split_by : List Stream → Query → List Window
split_by streams query = option_map_or (λ s. filter (is_split query.from query.to) s.windows) (stream_named query.name streams) []

-- what is known of whether a value is there is true
abbrev pub HoldsPresence : Presence → Bool → Type 0
HoldsPresence Absent truth = truth ≡ false
HoldsPresence Present truth = truth ≡ true
HoldsPresence Maybe truth = Unit {0}

-- an answer holds the truth over the values of a stream, those outside landmarks and those of landmarks
abbrev pub HoldsTruth : Query → List Point → List Point → Outcome → Type 0
HoldsTruth query plain marked (Count lo hi) =
    let truth = true_count query.from query.to plain marked in (lo ≤ truth) × (truth ≤ hi)
HoldsTruth query plain marked (Sum lo hi) =
    let truth = true_sum query.from query.to plain marked in (lo ≤ℤ truth) × (truth ≤ℤ hi)
HoldsTruth query plain marked (Min e) = HoldsExtreme e (true_least query.from query.to plain marked)
HoldsTruth query plain marked (Max e) = HoldsExtreme e (true_greatest query.from query.to plain marked)
HoldsTruth query plain marked (Mean m) = HoldsMean m (true_values query.from query.to plain marked)
HoldsTruth query plain marked (Has presence) =
    (value : ℤ) × (query.kind ≡ kinds.Has value) × HoldsPresence presence (true_presence value query.from query.to plain marked)
-- a guess lies in the interval, as the truth does
HoldsTruth query plain marked (Estimate lo guess hi) =
    let truth = true_amount query.kind query.from query.to plain marked in (lo ≤ℤ truth) × (truth ≤ℤ hi) × (lo ≤ℤ guess) × (guess ≤ℤ hi)
HoldsTruth query plain marked (MeanEstimate g) = HoldsMeanGuess g (true_values query.from query.to plain marked)

-- an answer is to what was asked for
abbrev pub IsOfKind : Kind → Outcome → Type 0
IsOfKind kind (Count lo hi) = kind ≡ kinds.Count
IsOfKind kind (Sum lo hi) = kind ≡ kinds.Sum
IsOfKind kind (Min e) = kind ≡ kinds.Min
IsOfKind kind (Max e) = kind ≡ kinds.Max
IsOfKind kind (Mean m) = kind ≡ kinds.Mean
IsOfKind kind (Has _) = (value : ℤ) × (kind ≡ kinds.Has value)
IsOfKind kind (Estimate lo guess hi) = (kind ≡ kinds.CountGuess) ⊎ (kind ≡ kinds.SumGuess)
IsOfKind kind (MeanEstimate g) = kind ≡ kinds.MeanGuess

-- an answer is one number, or says that there is no value. Of whether a value is there nothing is said: a window may leave that open
-- which lies whole in the range.
abbrev pub IsExactOutcome : Outcome → Type 0
IsExactOutcome (Count lo hi) = lo ≡ hi
IsExactOutcome (Sum lo hi) = lo ≡ hi
IsExactOutcome (Min e) = IsExact e
IsExactOutcome (Max e) = IsExact e
IsExactOutcome (Mean m) = IsExactMean m
IsExactOutcome (Has _) = Unit {0}
IsExactOutcome (Estimate lo guess hi) = (lo ≡ guess) × (guess ≡ hi)
IsExactOutcome (MeanEstimate g) = IsExactMeanGuess g
