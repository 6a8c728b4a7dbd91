-- Worked rows of what states answer to queries, each computed from a history.
use Rattle.ss_model.proofs.Common.{ℤ, Option, codes, arith, refl, ints, Create, Value, Open, Close, Drop, Params, exp, power, ◌⊎◌, Kind, Query, Refusal}
use Rattle.ss_model.proofs.Common.{Unknown, Range, Sure, SplitFigures, is_free, New, Happened, added, HasEnds, HoldsTruth, IsExactOutcome, IsOfKind, IsExact}
use Rattle.ss_model.proofs.Common.{split_windows, Stream, Outcome, Sum}
use Rattle.std.specs.Prelude.{◌≡◌, ℕ, Bool, pos, negsuc, List, [], ◌∷◌, map, Some, None}
use Rattle.ss_targets.specs.Windowing.{window_index}
use Rattle.ss_targets.specs.Power.{power_length}
use Rattle.ss_catalog.specs.declared.query.Kind.TheVariants as kinds
use Rattle.ss_catalog.specs.declared.refusal.Refusal.TheVariants as refusal
use Rattle.ss_bounds.specs.declared.extreme.Extreme.TheVariants.{Nothing, Maybe}
use Rattle.ss_bounds.specs.declared.mean.Mean.TheVariants as means
use Rattle.ss_bounds.specs.declared.mean.MeanGuess.TheVariants as guesses
use Rattle.ss_bounds.specs.Split.{sum_interval}
use Rattle.ss_model.specs.Answers.{outcome_of, refuses_query}
use Rattle.ss_model.specs.Outline.{Outline}
use Rattle.ss_model.specs.Refusals.{range_refusals, refusals}
use Rattle.ss_model.specs.State.{state}
use Rattle.ss_model.specs.declared.outcome.Outcome.TheVariants.{Count, Min, Max, Mean, Estimate, MeanEstimate}

a : List ℕ
a = codes "a"

-- a stream and seven readings
readings : List Happened
readings = map added (
    Create a (exp 2 1 1) ∷ Value a 10 (pos 5) ∷ Value a 20 (negsuc 2) ∷ Value a 30 (pos 8) ∷ Value a 40 (pos 1)
    ∷ Value a 50 (pos 9) ∷ Value a 60 (pos 2) ∷ Value a 70 (pos 7) ∷ [])

query : Kind → ℕ → ℕ → Query
query kind from to = record { name = a; kind = kind; from = from; to = to }

answers : List Query → List (Option Outcome)
answers = map (outcome_of (state readings))

-- no window is split
answers-whole : answers (query kinds.Count 10 40 ∷ query kinds.Sum 0 100 ∷ query kinds.Max 45 65 ∷ query kinds.Min 71 80 ∷ []) ≡
    Some (Count 4 4) ∷ Some (Sum (pos 29) (pos 29)) ∷ Some (Max (Sure (pos 9) (pos 9))) ∷ Some (Min Nothing) ∷ []
unfolding answers outcome_of query state window_index sum_interval readings a
answers-whole = refl

-- one window is split
answers-split : answers
    (query kinds.Count 10 25 ∷ query kinds.Sum 10 25 ∷ query kinds.Min 10 25 ∷ query kinds.Min 15 25 ∷ query kinds.Count 15 25 ∷ []) ≡
    Some (Count 1 3) ∷ Some (Sum (negsuc 4) (pos 16)) ∷ Some (Min (Sure (negsuc 2) (pos 8))) ∷ Some (Min (Maybe (negsuc 2) (pos 8)))
    ∷ Some (Count 0 2) ∷ []
unfolding answers outcome_of query state window_index sum_interval readings a
answers-split = refl

-- two windows are split
answers-two_split : answers (query kinds.Count 25 55 ∷ query kinds.Sum 25 55 ∷ query kinds.Min 25 55 ∷ query kinds.Max 25 55 ∷ []) ≡
    Some (Count 2 4) ∷ Some (Sum (negsuc 2) (pos 25)) ∷ Some (Min (Sure (negsuc 2) (pos 8))) ∷ Some (Max (Sure (pos 2) (pos 9))) ∷ []
unfolding answers outcome_of query state window_index sum_interval readings a
answers-two_split = refl

-- the likeliest values lie between the same ends: sums of about 5.59 and 5.59 + 5.5, and one of 5.5
answers-guess : answers
    (query kinds.CountGuess 10 25 ∷ query kinds.SumGuess 10 25 ∷ query kinds.CountGuess 25 55 ∷ query kinds.SumGuess 25 55
    ∷ query kinds.SumGuess 45 55 ∷ query kinds.SumGuess 0 100 ∷ query kinds.CountGuess 71 80 ∷ []) ≡
    Some (Estimate (pos 1) (pos 2) (pos 3)) ∷ Some (Estimate (negsuc 4) (pos 6) (pos 16)) ∷ Some (Estimate (pos 2) (pos 3) (pos 4))
    ∷ Some (Estimate (negsuc 2) (pos 11) (pos 25)) ∷ Some (Estimate (pos 2) (pos 6) (pos 9)) ∷ Some (Estimate (pos 29) (pos 29) (pos 29))
    ∷ Some (Estimate (pos 0) (pos 0) (pos 0)) ∷ []
unfolding answers outcome_of query state window_index sum_interval readings a
answers-guess = refl

-- two guesses of one and a half make three, and not four; a sum of 10.5 is nearest to 10 and to 11
halves : List Happened
halves = map added (
    Create a (power 1 0 1 3) ∷ Value a 10 (pos 1) ∷ Value a 12 (pos 2) ∷ Value a 15 (pos 3) ∷ Value a 20 (pos 4) ∷ Value a 21 (pos 5)
    ∷ Value a 25 (pos 6) ∷ [])

answers-halves : map (outcome_of (state halves)) (query kinds.CountGuess 13 22 ∷ query kinds.SumGuess 13 22 ∷ []) ≡
    Some (Estimate (pos 2) (pos 3) (pos 4)) ∷ Some (Estimate (pos 5) (pos 10) (pos 16)) ∷ []
unfolding outcome_of query state power_length window_index sum_interval halves a
answers-halves = refl

-- the name is tested before the range
why : Query → Option Refusal
why = refuses_query (state readings)

refusals-readings : map why
    (query kinds.Sum 5 4 ∷ query kinds.Sum 5 5 ∷ record { name = codes "x"; kind = kinds.Sum; from = 5; to = 4 }
    ∷ record { name = codes "x"; kind = kinds.Min; from = 0; to = 4 } ∷ []) ≡ Some Range ∷ None ∷ Some Unknown ∷ Some Unknown ∷ []
unfolding why refuses_query query state window_index readings a
refusals-readings = refl

-- where no stream stands there is no answer, and a stream without values answers all the same
bare : List Happened
bare = map added (Create a (exp 2 1 1) ∷ [])

answers-bare : map (outcome_of (state bare))
    (record { name = codes "x"; kind = kinds.Count; from = 0; to = 4 } ∷ query kinds.Count 0 4 ∷ query kinds.Sum 0 4 ∷ query kinds.Max 0 4 ∷ []) ≡
    None ∷ Some (Count 0 0) ∷ Some (Sum (pos 0) (pos 0)) ∷ Some (Max Nothing) ∷ []
unfolding outcome_of query state window_index bare a
answers-bare = refl

-- four values at four times in one window of four: the free times are used up
close_times : List Happened
close_times = map added (
    Create a (power 1 0 1 4) ∷ Value a 10 (pos 4) ∷ Value a 11 (pos 4) ∷ Value a 12 (pos 6) ∷ Value a 13 (pos 6) ∷ [])

answers-close_times : map (outcome_of (state close_times)) (query kinds.Count 10 11 ∷ query kinds.Sum 10 11 ∷ []) ≡
    Some (Count 2 2) ∷ Some (Sum (pos 8) (pos 12)) ∷ []
unfolding outcome_of query state power_length window_index sum_interval close_times a
answers-close_times = refl

-- a value in a landmark at one time, and a value after it
at_one_time : List Happened
at_one_time = map added (Create a (exp 2 1 1) ∷ Open a 100 ∷ Value a 100 (pos 7) ∷ Close a 100 ∷ Value a 101 (pos 8) ∷ [])

answers-at_one_time : map (outcome_of (state at_one_time))
    (query kinds.Sum 100 100 ∷ query kinds.Sum 101 101 ∷ query kinds.Count 100 101 ∷ query kinds.Max 0 200 ∷ query kinds.Min 0 99 ∷ []) ≡
    Some (Sum (pos 7) (pos 7)) ∷ Some (Sum (pos 8) (pos 8)) ∷ Some (Count 2 2) ∷ Some (Max (Sure (pos 8) (pos 8))) ∷ Some (Min Nothing) ∷ []
unfolding outcome_of query state window_index sum_interval at_one_time a
answers-at_one_time = refl

-- a landmark from 20 to 40 within a window from 10 to 50
around : List Happened
around = map added (
    Create a (power 1 0 1 2) ∷ Value a 10 (pos 1) ∷ Open a 20 ∷ Value a 20 (pos 100) ∷ Value a 30 (pos 200) ∷ Close a 40
    ∷ Value a 50 (pos 3) ∷ [])

split_around : ℕ → ℕ → List (List SplitFigures)
split_around from to = map (λ (s : Stream). split_windows (is_free s.landmarks) from to s.windows) (state around)

-- its times are free on both sides of the landmark alone
splits-around : split_around 20 40 ∷ split_around 5 45 ∷ [] ≡
    ((record { count = 2; sum = pos 4; min = pos 1; max = pos 3; ends = 0; inside = 0; outside = 18 } ∷ []) ∷ [])
    ∷ ((record { count = 2; sum = pos 4; min = pos 1; max = pos 3; ends = 1; inside = 14; outside = 4 } ∷ []) ∷ []) ∷ []
unfolding split_around state power_length window_index around a
splits-around = refl

answers-around : map (outcome_of (state around))
    (query kinds.Count 20 40 ∷ query kinds.Sum 20 40 ∷ query kinds.Min 20 40 ∷ query kinds.Max 20 40 ∷ []) ≡
    Some (Count 2 2) ∷ Some (Sum (pos 300) (pos 300)) ∷ Some (Min (Sure (pos 100) (pos 100))) ∷ Some (Max (Sure (pos 200) (pos 200))) ∷ []
unfolding outcome_of query state power_length window_index sum_interval around a
answers-around = refl

-- one end of the window and a part of the landmark
answers-around_part : map (outcome_of (state around))
    (query kinds.Count 5 25 ∷ query kinds.Sum 5 25 ∷ query kinds.Min 5 25 ∷ query kinds.Max 5 25 ∷ query kinds.Sum 0 60 ∷ []) ≡
    Some (Count 2 2) ∷ Some (Sum (pos 101) (pos 103)) ∷ Some (Min (Sure (pos 1) (pos 3))) ∷ Some (Max (Sure (pos 100) (pos 100)))
    ∷ Some (Sum (pos 304) (pos 304)) ∷ []
unfolding outcome_of query state power_length window_index sum_interval around a
answers-around_part = refl

-- the values of a landmark that is open are asked for like those of others
begun : List Happened
begun = map added (Create a (exp 2 1 1) ∷ Value a 10 (pos 1) ∷ Open a 20 ∷ Value a 20 (pos 5) ∷ Value a 30 (pos 6) ∷ [])

answers-begun : map (outcome_of (state begun)) (query kinds.Count 15 25 ∷ query kinds.Sum 10 30 ∷ query kinds.Max 31 40 ∷ []) ≡
    Some (Count 1 1) ∷ Some (Sum (pos 12) (pos 12)) ∷ Some (Max Nothing) ∷ []
unfolding outcome_of query state window_index sum_interval begun a
answers-begun = refl

-- of one value, 1 at time 5, an answer is wrong by one at either end
abbrev holds_of_one : Kind → Outcome → Type 0
holds_of_one kind outcome = HoldsTruth (record { name = []; kind = kind; from = 0; to = 9 }) ((5, pos 1, New) ∷ []) [] outcome

truth-count_above : holds_of_one kinds.Count (Count 0 0) → ⊥
truth-count_above holds = omega (arith, holds.1)

truth-count_below : holds_of_one kinds.Count (Count 2 3) → ⊥
truth-count_below holds = omega (arith, holds.0)

truth-sum_above : holds_of_one kinds.Sum (Sum (pos 0) (pos 0)) → ⊥
truth-sum_above holds = omega (arith, ints, holds.1)

truth-sum_below : holds_of_one kinds.Sum (Sum (pos 2) (pos 3)) → ⊥
truth-sum_below holds = omega (arith, ints, holds.0)

truth-amount_above : holds_of_one kinds.CountGuess (Estimate (pos 0) (pos 0) (pos 0)) → ⊥
truth-amount_above holds = omega (arith, ints, holds.1)

truth-amount_below : holds_of_one kinds.SumGuess (Estimate (pos 2) (pos 2) (pos 3)) → ⊥
truth-amount_below holds = omega (arith, ints, holds.0)

truth-guess_above : holds_of_one kinds.SumGuess (Estimate (pos 0) (pos 4) (pos 3)) → ⊥
truth-guess_above holds = omega (arith, ints, holds.3)

truth-guess_below : holds_of_one kinds.CountGuess (Estimate (pos 1) (pos 0) (pos 3)) → ⊥
truth-guess_below holds = omega (arith, ints, holds.2)

-- what leaves something open isn't exact
exact-maybe : IsExact (Maybe (pos 1) (pos 1)) → ⊥
exact-maybe exact = exact

exact-sure : IsExact (Sure (pos 1) (pos 2)) → pos 1 ≡ pos 2
exact-sure exact = exact

-- the order in which refusals are tested
module _ (stream : Option Outline) (numbers : List ℕ) (records : ℕ) (name : List ℕ) (t : ℕ) where
  order-create : (params : Params) → map (λ r. r.1) (refusals stream numbers records (Create name params)) ≡
      refusal.Param ∷ refusal.Exists ∷ refusal.Streams ∷ refusal.StoreFull ∷ []
  order-create params = refl

  order-value : (v : ℤ) → map (λ r. r.1) (refusals stream numbers records (Value name t v)) ≡
      refusal.Unknown ∷ refusal.Time ∷ refusal.StreamFull ∷ refusal.StoreFull ∷ []
  order-value v = refl

  order-open : map (λ r. r.1) (refusals stream numbers records (Open name t)) ≡
      refusal.Unknown ∷ refusal.Open ∷ refusal.Time ∷ refusal.StoreFull ∷ []
  order-open = refl

  order-close : map (λ r. r.1) (refusals stream numbers records (Close name t)) ≡ refusal.Unknown ∷ refusal.NotOpen ∷ refusal.Time ∷ []
  order-close = refl

  order-drop : map (λ r. r.1) (refusals stream numbers records (Drop name)) ≡ refusal.Unknown ∷ []
  order-drop = refl

order-range : (known : Bool) (from to : ℕ) → map (λ r. r.1) (range_refusals known from to) ≡ refusal.Unknown ∷ refusal.Range ∷ []
order-range known from to = refl

exact-count : (lo hi : ℕ) → IsExactOutcome (Count lo hi) → lo ≡ hi
exact-count lo hi exact = exact

exact-sum : IsExactOutcome (Sum (pos 1) (pos 2)) → pos 1 ≡ pos 2
exact-sum exact = exact

exact-estimate : IsExactOutcome (Estimate (pos 1) (pos 2) (pos 3)) → (pos 1 ≡ pos 2) × (pos 2 ≡ pos 3)
exact-estimate exact = exact

exact-min : IsExactOutcome (Min (Maybe (pos 1) (pos 1))) → ⊥
exact-min exact = exact

exact-max : IsExactOutcome (Max (Maybe (pos 1) (pos 1))) → ⊥
exact-max exact = exact

-- a least or a greatest value is told wrong by one at either end
truth-min_above : holds_of_one kinds.Min (Min (Sure (pos 0) (pos 0))) → ⊥
truth-min_above holds = omega (arith, ints, holds.1)

truth-max_below : holds_of_one kinds.Max (Max (Sure (pos 2) (pos 3))) → ⊥
truth-max_below holds = omega (arith, ints, holds.0)

-- each answer is to one kind of query alone
module _ (kind : Kind) where
  kind-count : IsOfKind kind (Count 1 2) → kind ≡ kinds.Count
  kind-count is = is

  kind-sum : IsOfKind kind (Sum (pos 1) (pos 2)) → kind ≡ kinds.Sum
  kind-sum is = is

  kind-min : IsOfKind kind (Min Nothing) → kind ≡ kinds.Min
  kind-min is = is

  kind-max : IsOfKind kind (Max Nothing) → kind ≡ kinds.Max
  kind-max is = is

  kind-mean : IsOfKind kind (Mean means.Nothing) → kind ≡ kinds.Mean
  kind-mean is = is

  kind-estimate : IsOfKind kind (Estimate (pos 1) (pos 2) (pos 3)) → (kind ≡ kinds.CountGuess) ⊎ (kind ≡ kinds.SumGuess)
  kind-estimate is = is

  kind-mean_estimate : IsOfKind kind (MeanEstimate guesses.Nothing) → kind ≡ kinds.MeanGuess
  kind-mean_estimate is = is

-- an estimate has the ends of a count or a sum
ends-count : HasEnds (Estimate (pos 1) (pos 2) (pos 3)) (Count 1 3) × HasEnds (Estimate (pos 1) (pos 2) (pos 3)) (Sum (pos 1) (pos 3))
ends-count = ((refl, refl), (refl, refl))

ends-other : (HasEnds (Estimate (pos 1) (pos 2) (pos 3)) (Count 1 2) → pos 3 ≡ pos 2) × (HasEnds (Count 1 3) (Count 1 3) → ⊥)
ends-other = ((λ ends. ends.1), (λ ends. ends))
