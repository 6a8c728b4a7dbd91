-- The definitions of ages, of parts of a range and of sizes at some rows, and where the laws leave no room.
use Rattle.std.proofs.Common.{◌≡◌, ◌+◌, ◌-◌, ◌*◌, ◌^◌, ◌≤◌, ◌++◌, ℤ, [], ◌∷◌, Some, ap, arith, true, false, negsuc, refl, suc}
use Rattle.std.specs.Prelude.{◌-ℤ◌, List, length, map, max, min, pos, take}
use Rattle.std.proofs.lemmas.Int.{ints}
use Rattle.ss_bounds.specs.Several.{greatest_of_all, least_of_all, sum_of_counts, sum_of_sums}
use Rattle.ss_bounds.specs.Split.{SplitFigures, sum_interval}
use Rattle.ss_bounds.specs.declared.extreme.Extreme.TheVariants.{Nothing, Sure, Maybe}
use Rattle.ss_catalog.specs.Series.{numbers_from}
use Rattle.ss_catalog.specs.Params.{exp, power}
use Rattle.ss_catalog.specs.declared.event.Event.TheVariants as events
use Rattle.ss_catalog.specs.declared.params.Family.TheVariants as families
use Rattle.ss_catalog.specs.declared.query.Kind.TheVariants as kinds
use Rattle.ss_catalog.specs.declared.series.Series.{Series}
use Rattle.ss_laws.specs.Ages.{cuts, length_at, open_at, open_sum, open_sums, values_since}
use Rattle.ss_laws.specs.Parts.{IsCountWithin, IsExtremeWithin, IsSumWithin, answered_count, answered_greatest, answered_least, of_rows, answered_sum}
use Rattle.ss_laws.specs.Sizes.{HoldsAtMost, NeedsAtMost, TakesAtMost, UsesFewSlots, steps_of}
use Rattle.ss_model.specs.History.{Happened, added}
use Rattle.ss_model.specs.State.{Stream, live, records_of, state}
use Rattle.ss_model.specs.declared.types.TheConstants.{MOST_RECORDS}
use Rattle.ss_model.specs.Decay.{cover, steps_met}
use Rattle.ss_targets.specs.Rule.{Rule, without_step}
use Rattle.ss_model.specs.Windows.{windows}
use Rattle.ss_model.specs.declared.types.Window.{Window}
use Rattle.ss_targets.specs.Power.{power_length}
use Rattle.ss_summary.specs.Points.{New, Point}
use Rattle.ss_targets.specs.Exp.{exp_length}
use Rattle.ss_targets.specs.Windowing.{window_index}

-- seven values, and their windows 1..4, 5..6 and 7
abbrev seven : List Point
seven = (10, pos 5, New) ∷ (20, pos 3, New) ∷ (30, pos 8, New) ∷ (40, pos 1, New) ∷ (50, pos 9, New) ∷ (60, pos 2, New) ∷ (70, pos 7, New) ∷ []

abbrev their_windows : List Window
their_windows = windows (without_step (exp_length 2 1 1)) seven

-- a value at the time counts, and the one before it doesn't
values_since-10 : values_since 10 seven ≡ 7
values_since-10 = refl

values_since-25 : values_since 25 seven ≡ 5
values_since-25 = refl

values_since-70 : values_since 70 seven ≡ 1
values_since-70 = refl

values_since-71 : values_since 71 seven ≡ 0
values_since-71 = refl

-- the first window is cut from after its first time to its last
cuts-10 : cuts 10 their_windows ≡ false
unfolding window_index
cuts-10 = refl

cuts-11 : cuts 11 their_windows ≡ true
unfolding window_index
cuts-11 = refl

cuts-40 : cuts 40 their_windows ≡ true
unfolding window_index
cuts-40 = refl

cuts-41 : cuts 41 their_windows ≡ false
unfolding window_index
cuts-41 = refl

-- the four oldest values leave two open, whichever time cuts them; a window of two leaves none
open_at-25 : open_at (exp_length 2 1 1) 25 seven their_windows ≡ 2
unfolding window_index
open_at-25 = refl

open_at-41 : open_at (exp_length 2 1 1) 41 seven their_windows ≡ 0
unfolding window_index
open_at-41 = refl

open_at-55 : open_at (exp_length 2 1 1) 55 seven their_windows ≡ 0
unfolding window_index
open_at-55 = refl

-- the oldest of three values has the age 2, the last in the window of two, and that of four the age 3, the first in the window of four
length_at-50 : length_at (exp_length 2 1 1) 50 seven ≡ 2
unfolding window_index
length_at-50 = refl

length_at-40 : length_at (exp_length 2 1 1) 40 seven ≡ 4
unfolding window_index
length_at-40 = refl

-- a range that cuts two windows of four, one at each end, leaves two values of each open, as many as the law allows
abbrev eight : List Point
eight =
    (10, pos 5, New) ∷ (20, pos 3, New) ∷ (30, pos 8, New) ∷ (40, pos 1, New) ∷ (50, pos 9, New) ∷ (60, pos 2, New) ∷ (70, pos 7, New)
    ∷ (80, pos 4, New) ∷ []

abbrev fours : Stream
fours = record { number = 0; name = []; params = power 1 0 1 4; windows = windows (without_step (power_length 1 0 1 4)) eight; landmarks = [] }

count-fours : answered_count fours 15 55 ≡ (2, 6)
unfolding power_length window_index
count-fours = refl

open_at-fours : open_at (power_length 1 0 1 4) 15 eight fours.windows + open_at (power_length 1 0 1 4) 56 eight fours.windows ≡ 6 - 2
unfolding power_length window_index
open_at-fours = refl

-- of two values, -5 and 7, one lies in the range: their sum is as wide as the law allows
abbrev widest : SplitFigures
widest = record { count = 2; sum = pos 2; min = negsuc 4; max = pos 7; ends = 1; inside = 5; outside = 4 }

sum-widest : sum_interval widest ≡ (negsuc 4, pos 7)
unfolding sum_interval
sum-widest = refl

width-widest : (pos 7 -ℤ negsuc 4) ≡ open_sum widest
width-widest = refl

-- of three values that are all 5, or all -5, at most one lies in the range: it is 0 that they are far from, and not one another
abbrev alike : ℤ → ℤ → SplitFigures
alike v sum = record { count = 3; sum = sum; min = v; max = v; ends = 0; inside = 1; outside = 1 }

sum-fives : sum_interval (alike (pos 5) (pos 15)) ≡ (pos 0, pos 5)
unfolding sum_interval
sum-fives = refl

sum-minus_fives : sum_interval (alike (negsuc 4) (negsuc 14)) ≡ (negsuc 4, pos 0)
unfolding sum_interval
sum-minus_fives = refl

-- two windows leave open what each does, and none leaves nothing
open_sums-two : map open_sums ([] ∷ (widest ∷ []) ∷ (widest ∷ alike (pos 5) (pos 15) ∷ []) ∷ []) ≡ pos 0 ∷ pos 12 ∷ pos 22 ∷ []
open_sums-two = refl

open_sum-alike : map open_sum (alike (pos 5) (pos 15) ∷ alike (negsuc 4) (negsuc 14) ∷ []) ≡ pos 10 ∷ pos 10 ∷ []
open_sum-alike = refl

-- the line of exponential lengths is reached at the first age of each group, and the newest r values end at r
length-7 : 3 * exp_length 2 3 5 (window_index (exp_length 2 3 5) 15) ≡ (2 - 1) * 15 + 3 * 5
unfolding window_index
length-7 = refl

length-base_3 : 2 * exp_length 3 2 1 (window_index (exp_length 3 2 1) 2) ≡ (3 - 1) * 2 + 2 * 1
unfolding window_index
length-base_3 = refl

length-newest : exp_length 2 3 1 (window_index (exp_length 2 3 1) 2) ≡ 1
unfolding window_index
length-newest = refl

length-past_newest : exp_length 2 3 1 (window_index (exp_length 2 3 1) 3) ≡ 2
unfolding window_index
length-past_newest = refl

-- where s is 2, the newest value has no window of its own
length-scaled : exp_length 2 3 2 (window_index (exp_length 2 3 2) 0) ≡ 2
unfolding window_index
length-scaled = refl

-- two groups of three hold 45 values, and not 46
cover-45 : cover (exp_length 2 3 5) 45 ≡ 3 * 2
unfolding window_index
cover-45 = refl

cover-46 : cover (exp_length 2 3 5) 46 ≡ 3 * 2 + 1
unfolding window_index
cover-46 = refl

-- two groups of two hold 8 values where b is 3, and not 9
few-8 : (3 - 1) * 8 ≡ 2 * 1 * (3 ^ 2 - 1)
few-8 = refl

cover-8 : cover (exp_length 3 2 1) 8 ≡ 2 * 2
unfolding window_index
cover-8 = refl

cover-9 : cover (exp_length 3 2 1) 9 ≡ 2 * 2 + 1
unfolding window_index
cover-9 = refl

-- power 1 2 1 3: below the age 3 * 2 ^ 3 / 3 a window has 3 * 2 ^ 2 values
power-7 : power_length 1 2 1 3 (window_index (power_length 1 2 1 3) 7) ≡ 3 * 2 ^ 2
unfolding power_length window_index
power-7 = refl

-- power 1 0 4 5: two groups of four windows of five hold 40 values, and not 41
cover-40 : cover (power_length 1 0 4 5) 40 ≡ 4 * 2 ^ 1
unfolding power_length window_index
cover-40 = refl

cover-41 : cover (power_length 1 0 4 5) 41 ≡ 4 * 2 ^ 1 + 1
unfolding power_length window_index
cover-41 = refl

-- the four windows of the first group hold a value each
power-newest : power_length 1 1 4 1 (window_index (power_length 1 1 4 1) 3) ∷ power_length 1 1 4 1 (window_index (power_length 1 1 4 1) 4)
    ∷ power_length 1 1 4 2 (window_index (power_length 1 1 4 2) 0) ∷ [] ≡ 1 ∷ 2 ∷ 2 ∷ []
unfolding power_length window_index
power-newest = refl

-- power 1 1 4 1: two groups hold 12 values in windows of 1 and 2, and the next window has three
power-11 : power_length 1 1 4 1 (window_index (power_length 1 1 4 1) 11) ≡ 2
unfolding power_length window_index
power-11 = refl

power-12 : power_length 1 1 4 1 (window_index (power_length 1 1 4 1) 12) ≡ 3
unfolding power_length window_index
power-12 = refl

cover-12 : cover (power_length 1 1 4 1) 12 ≡ 4 * 2
unfolding power_length window_index
cover-12 = refl

cover-13 : cover (power_length 1 1 4 1) 13 ≡ 4 * 2 + 1
unfolding power_length window_index
cover-13 = refl

-- ---- a range and its parts

-- a stream of these values
abbrev one : Stream
one = record { number = 0; name = []; params = exp 2 1 1; windows = their_windows; landmarks = [] }

-- the range 15 to 45 has one to three of the first window's values, 5, 3, 8 and 1, and its two parts leave two more open
count-range : answered_count one 15 45 ≡ (1, 3)
unfolding window_index
count-range = refl

count-parts : sum_of_counts (answered_count one 15 25 ∷ answered_count one 26 45 ∷ []) ≡ (1, 5)
unfolding window_index
count-parts = refl

sum-range : answered_sum one 15 45 ≡ (pos 1, pos 16)
unfolding window_index sum_interval
sum-range = refl

sum-parts : sum_of_sums (answered_sum one 15 25 ∷ answered_sum one 26 45 ∷ []) ≡ (pos 1, pos 31)
unfolding window_index sum_interval
sum-parts = refl

-- the first window lies whole in 10 to 45, and both its halves may have each of its values
least-range : answered_least one 10 45 ≡ Sure (pos 1) (pos 1)
unfolding window_index
least-range = refl

least-parts : least_of_all (answered_least one 10 25 ∷ answered_least one 26 45 ∷ []) ≡ Sure (pos 1) (pos 8)
unfolding window_index
least-parts = refl

greatest-range : answered_greatest one 10 45 ≡ Sure (pos 8) (pos 8)
unfolding window_index
greatest-range = refl

greatest-parts : greatest_of_all (answered_greatest one 10 25 ∷ answered_greatest one 26 45 ∷ []) ≡ Sure (pos 1) (pos 8)
unfolding window_index
greatest-parts = refl

-- the rows 15 to 25, 26 to 36 and 37 to 45 of a series
abbrev in_rows : Series
in_rows = record { name = []; kind = kinds.Count; from = 15; to = 45; step = 11 }

count-rows : of_rows (answered_count one) in_rows ≡ (0, 2) ∷ (0, 2) ∷ (1, 3) ∷ []
unfolding window_index numbers_from
count-rows = refl

-- what lies within an interval: its own ends do, and ends just past them don't
within-at : IsCountWithin (1, 3) (1, 3) × IsSumWithin (pos 1, pos 3) (pos 1, pos 3)
within-at = ((omega arith, omega arith), (omega (arith, ints), omega (arith, ints)))

count-below : ¬ IsCountWithin (0, 3) (1, 3)
count-below within = omega (arith, within.0)

count-above : ¬ IsCountWithin (1, 4) (1, 3)
count-above within = omega (arith, within.1)

sum-below : ¬ IsSumWithin (pos 0, pos 3) (pos 1, pos 3)
sum-below within = omega (arith, ints, within.0)

sum-above : ¬ IsSumWithin (pos 1, pos 4) (pos 1, pos 3)
sum-above within = omega (arith, ints, within.1)

-- of least and greatest values
extreme-at : IsExtremeWithin (Sure (pos 1) (pos 3)) (Sure (pos 1) (pos 3)) × IsExtremeWithin (Sure (pos 1) (pos 3)) (Maybe (pos 1) (pos 3))
    × IsExtremeWithin (Maybe (pos 1) (pos 3)) (Maybe (pos 1) (pos 3))
extreme-at = (
  (omega (arith, ints), omega (arith, ints)),
  (omega (arith, ints), omega (arith, ints)),
  (omega (arith, ints), omega (arith, ints)),
)

extreme-below : ¬ IsExtremeWithin (Sure (pos 0) (pos 3)) (Maybe (pos 1) (pos 3))
extreme-below within = omega (arith, ints, within.0)

extreme-above : ¬ IsExtremeWithin (Maybe (pos 1) (pos 4)) (Maybe (pos 1) (pos 3))
extreme-above within = omega (arith, ints, within.1)

extreme_sure-below : ¬ IsExtremeWithin (Sure (pos 0) (pos 3)) (Sure (pos 1) (pos 3))
extreme_sure-below within = omega (arith, ints, within.0)

extreme_sure-above : ¬ IsExtremeWithin (Sure (pos 1) (pos 4)) (Sure (pos 1) (pos 3))
extreme_sure-above within = omega (arith, ints, within.1)

extreme-unsure : ¬ IsExtremeWithin (Maybe (pos 2) (pos 2)) (Sure (pos 1) (pos 3))
extreme-unsure within = within

extreme-nothing : ¬ IsExtremeWithin Nothing (Maybe (pos 1) (pos 3))
extreme-nothing within = within

extreme-some : ¬ IsExtremeWithin (Maybe (pos 1) (pos 3)) Nothing
extreme-some within = within

-- ---- sizes

-- a stream without values needs one record, and one with a value two
records-none : records_of (record one { windows = [] }) ≡ max 1 (2 * cover (exp_length 2 1 1) 0)
records-none = refl

records-one : records_of (record one { windows = windows (without_step (exp_length 2 1 1)) ((10, pos 5, New) ∷ []) })
    ≡ max 1 (2 * cover (exp_length 2 1 1) 1)
unfolding window_index
records-one = refl

-- three windows of five values stand where two target windows cover them
abbrev five : List Point
five = (10, pos 5, New) ∷ (20, pos 3, New) ∷ (30, pos 8, New) ∷ (40, pos 1, New) ∷ (50, pos 9, New) ∷ []

records-five : records_of (record one { params = exp 2 1 2; windows = windows (without_step (exp_length 2 1 2)) five })
    ≡ 2 * cover (exp_length 2 1 2) 5
unfolding window_index
records-five = refl

-- values in four minutes
abbrev apart : List Point
apart = (10, pos 5, New) ∷ (60, pos 3, New) ∷ (130, pos 8, New) ∷ (180, pos 1, New) ∷ []

-- within minutes one value needs two records too, and the seven need one more than without a step
abbrev within_minutes : Rule
within_minutes = record { lengths = exp_length 2 1 1; step = 60 }

records-one_minute : records_of (record one { windows = windows within_minutes ((10, pos 5, New) ∷ []) })
    ≡ max 1 (2 * cover (exp_length 2 1 1) 1 + steps_met 60 (10 ∷ []) - 1)
unfolding window_index
records-one_minute = refl

-- three values of one target window in three minutes need four, and one minute more one more
records-three_minutes : map (λ (values : List Point).
    records_of (record one { windows = windows (record within_minutes { lengths = power_length 1 0 1 4 }) values }))
    (take 3 apart ∷ apart ∷ []) ≡ (2 * 1 + 3 - 1) ∷ (2 * 1 + 4 - 1) ∷ []
unfolding window_index power_length
records-three_minutes = refl

records-minutes : records_of (record one { windows = windows within_minutes seven }) ≡ records_of one + 1
unfolding window_index
records-minutes = refl

-- two streams without a value need one record each, and a landmark with a value two more: the bounds of whole stores
live-none : live (record one { windows = [] } ∷ record one { windows = [] } ∷ []) ≡ 2 * (max 1 0 + 0)
live-none = refl

live-marked : live (record one {
  windows = [];
  landmarks = record { start = 10; finish = Some 20; values = record { t = 11; v = pos 1 } ∷ [] } ∷ [];
} ∷ []) ≡ 1 * (max 1 0 + 2)
live-marked = refl

-- a stream with one value needs two, as one target window does for it
live-one : live (record one { windows = windows (without_step (exp_length 2 1 1)) ((10, pos 5, New) ∷ []) } ∷ []) ≡ 1 * (max 1 (2 * (1 * 1) + 1 - 1) + 0)
unfolding window_index
live-one = refl

-- one event uses one slot, and not two; before the second event one record stands
abbrev created : Happened
created = added (events.Create (97 ∷ []) (exp 2 1 1))

abbrev valued : Happened
valued = added (events.Value (97 ∷ []) 10 (pos 5))

uses_few-one : UsesFewSlots (λ history. min 1 (length history)) (created ∷ [])
uses_few-one before after e is = omega arith

uses_few-two : ¬ UsesFewSlots (λ history. 2 * length history) (created ∷ [])
unfolding state
uses_few-two uses = let few : 2 ≤ 1 = uses [] [] created refl in omega (arith, few)

needs-none : NeedsAtMost 0 (created ∷ [])
unfolding state
needs-none [] after e is = let none : live (state []) ≡ 0 = refl in omega (arith, none)
needs-none (d ∷ []) after e is = let longer : 1 ≡ suc (suc (length after)) = ap (λ (es : List Happened). length es) is in absurd (omega (arith, longer))
needs-none (d ∷ f ∷ before) after e is =
    let longer : 1 ≡ suc (suc (length (before ++ e ∷ after))) = ap (λ (es : List Happened). length es) is in absurd (omega (arith, longer))

needs-one : ¬ NeedsAtMost 0 (created ∷ valued ∷ [])
unfolding state
needs-one needs = let few : 1 ≤ 0 = needs (created ∷ []) [] valued refl in omega (arith, few)

-- what streams take, at the bounds: a landmark with a value, and one value, for which one target window and one step do; and seven values
takes-marked : TakesAtMost [] 0 2 (record one {
  windows = [];
  landmarks = record { start = 10; finish = Some 20; values = record { t = 11; v = pos 1 } ∷ [] } ∷ [];
})
takes-marked = record { windows = omega arith; landmarks = omega arith }

takes-one : TakesAtMost (created ∷ valued ∷ []) 2 0
    (record one { name = 97 ∷ []; windows = windows (without_step (exp_length 2 1 1)) ((10, pos 5, New) ∷ []) })
unfolding window_index
takes-one = record { windows = omega arith; landmarks = omega arith }

takes-less : ¬ TakesAtMost (created ∷ valued ∷ []) 1 0
    (record one { name = 97 ∷ []; windows = windows (without_step (exp_length 2 1 1)) ((10, pos 5, New) ∷ []) })
unfolding window_index
takes-less takes = let few : 2 ≤ 1 = takes.windows in omega (arith, few)

takes-unmarked : ¬ TakesAtMost [] 0 1 (record one {
  windows = [];
  landmarks = record { start = 10; finish = Some 20; values = record { t = 11; v = pos 1 } ∷ [] } ∷ [];
})
takes-unmarked takes = let few : 2 ≤ 1 = takes.landmarks in omega (arith, few)

-- how many steps the values of a stream lie in: one where it has one value, and two where the next is of another minute
abbrev minutes : List Happened
minutes = created ∷ valued ∷ added (events.Value (97 ∷ []) 60 (pos 5)) ∷ []

abbrev in_minutes : Stream
in_minutes = record one { name = 97 ∷ []; params = record { family = families.Exp 2 1 1; within = Some 60 } }

steps_of-minutes : steps_of [] in_minutes ∷ steps_of (created ∷ valued ∷ []) in_minutes ∷ steps_of minutes in_minutes ∷ steps_of minutes one
    ∷ steps_of minutes (record one { name = 97 ∷ [] }) ∷ [] ≡ 0 ∷ 1 ∷ 2 ∷ 0 ∷ 1 ∷ []
steps_of-minutes = refl

-- seven values in two steps, with two landmarks and values of them, at the bounds and below each of them
abbrev marked : Stream
marked = record in_minutes { landmarks = record { start = 80; finish = Some 81; values = record { t = 80; v = pos 1 } ∷ [] } ∷ [] }

holds-marked : HoldsAtMost minutes (families.Exp 2 1 1) 7 2 2 marked
unfolding window_index
holds-marked = record { family = refl; values = omega arith; steps = omega arith; landmarks = omega arith }

holds-fewer : ¬ HoldsAtMost minutes (families.Exp 2 1 1) 6 2 2 marked
unfolding window_index
holds-fewer holds = let few : 7 ≤ 6 = holds.values in omega (arith, few)

holds-one_step : ¬ HoldsAtMost minutes (families.Exp 2 1 1) 7 1 2 marked
unfolding window_index
holds-one_step holds = let few : 2 ≤ 1 = holds.steps in omega (arith, few)

holds-one_mark : ¬ HoldsAtMost minutes (families.Exp 2 1 1) 7 2 1 marked
unfolding window_index
holds-one_mark holds = let few : 2 ≤ 1 = holds.landmarks in omega (arith, few)

-- as many records as a store has
most_records : MOST_RECORDS ≡ 1048576
most_records = refl
