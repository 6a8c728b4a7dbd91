-- Worked rows, each computed.
use Rattle.std.proofs.Common.{◌≡◌, ℕ, ◌+◌, refl, pos, List, [], ◌∷◌, ◌++◌, map, true, false, Some, None, arith, codes}
use Rattle.ss_catalog.specs.Catalog.{id_of, without_name}
use Rattle.ss_catalog.specs.Events.{IsInTime, event_name}
use Rattle.ss_catalog.specs.Names.{is_name}
use Rattle.ss_catalog.specs.Params.{exp as Exp, in_range, is_step, power as Power, step_for, step_number}
use Rattle.ss_catalog.specs.Queries.{end_name, is_certified, is_guess, kind_name, query_verb, series_verb}
use Rattle.ss_catalog.specs.Refusal.{refusal_name}
use Rattle.ss_catalog.specs.Series.{IsSeriesInRange, numbers_from, row_query, rows_in, rows_of, whole_query}
use Rattle.ss_catalog.specs.declared.TheConstants.{MOST_ROWS, MOST_STREAMS, LAST_STREAM}
use Rattle.ss_base.specs.declared.limits.TheConstants.{LAST_TIME}
use Rattle.ss_catalog.specs.declared.event.Event.TheVariants as events
use Rattle.ss_catalog.specs.declared.name.TheConstants.{LONGEST_NAME}
use Rattle.ss_catalog.specs.declared.params.Params.{Params}
use Rattle.ss_catalog.specs.declared.params.TheConstants.{GREATEST_BASE, GREATEST_POWER, GREATEST_WIDENING, GREATEST_SCALE}
use Rattle.ss_catalog.specs.declared.query.End.TheVariants.{Lo, Hi}
use Rattle.ss_catalog.specs.declared.query.Kind.TheVariants.{Count, Sum, Min, Max, Mean, Has, CountGuess, SumGuess, MeanGuess}
use Rattle.ss_catalog.specs.declared.refusal.Refusal.{Refusal}
use Rattle.ss_catalog.specs.declared.refusal.Refusal.TheVariants as refusals
use Rattle.ss_catalog.specs.declared.series.Series.{Series}
use Rattle.ss_catalog.specs.declared.stream_id.StreamId.{StreamId}

longest_name : LONGEST_NAME ≡ 32
longest_name = refl

most_streams : MOST_STREAMS ≡ 4096
most_streams = refl

last_stream : LAST_STREAM ≡ 4294967295
last_stream = refl

greatest_base : GREATEST_BASE ≡ 16
greatest_base = refl

greatest_power : GREATEST_POWER ≡ 4
greatest_power = refl

greatest_widening : GREATEST_WIDENING ≡ 3
greatest_widening = refl

greatest_scale : GREATEST_SCALE ≡ 65536
greatest_scale = refl

names-a : is_name (codes "a_-.Z9") ≡ true
unfolding is_name
names-a = refl

names-wrong : is_name (codes "x!") ≡ false
unfolding is_name
names-wrong = refl

names-nothing : is_name [] ≡ false
unfolding is_name
names-nothing = refl

params-least : in_range (Exp 2 1 1) ≡ true
params-least = refl

params-greatest : in_range (Exp 16 65536 65536) ≡ true
params-greatest = refl

params-base_1 : in_range (Exp 1 1 1) ≡ false
params-base_1 = refl

params-power_greatest : in_range (Power 4 3 65536 65536) ≡ true
params-power_greatest = refl

params-power_0 : in_range (Power 0 0 1 1) ≡ false
params-power_0 = refl

params-steps : map is_step (None ∷ Some 0 ∷ Some 1 ∷ Some 4294967295 ∷ []) ≡ true ∷ false ∷ true ∷ true ∷ []
params-steps = refl

-- a good step makes no family good that isn't, and the other way round
abbrev within : ℕ → Params → Params
within step params = record params { within = Some step }

params-within : map in_range
    (within 0 (Exp 2 1 1) ∷ within 1 (Exp 2 1 1) ∷ within 1 (Exp 1 1 1) ∷ within 0 (Power 1 0 1 1) ∷ within 4294967295 (Power 1 0 1 1)
    ∷ within 1 (Power 0 0 1 1) ∷ [])
    ≡ false ∷ true ∷ false ∷ false ∷ true ∷ false ∷ []
params-within = refl

params-step_numbers : map step_number (None ∷ Some 0 ∷ Some 60 ∷ []) ≡ 0 ∷ 0 ∷ 60 ∷ []
params-step_numbers = refl

params-steps_for : map step_for (0 ∷ 1 ∷ 60 ∷ []) ≡ None ∷ Some 1 ∷ Some 60 ∷ []
params-steps_for = refl

kinds : map kind_name (Count ∷ Sum ∷ Min ∷ Max ∷ Mean ∷ CountGuess ∷ SumGuess ∷ MeanGuess ∷ [])
    ≡ codes "count" ∷ codes "sum" ∷ codes "min" ∷ codes "max" ∷ codes "mean" ∷ codes "count" ∷ codes "sum" ∷ codes "mean" ∷ []
kinds = refl

kinds-certified : map is_certified (Count ∷ Sum ∷ Min ∷ Max ∷ Mean ∷ Has (pos 5) ∷ CountGuess ∷ SumGuess ∷ MeanGuess ∷ [])
    ≡ true ∷ true ∷ false ∷ false ∷ true ∷ false ∷ false ∷ false ∷ false ∷ []
kinds-certified = refl

kinds-guess : map is_guess (Count ∷ Sum ∷ Min ∷ Max ∷ Mean ∷ Has (pos 5) ∷ CountGuess ∷ SumGuess ∷ MeanGuess ∷ [])
    ≡ false ∷ false ∷ false ∷ false ∷ false ∷ false ∷ true ∷ true ∷ true ∷ []
kinds-guess = refl

kinds-verbs : map query_verb (Max ∷ Mean ∷ Has (pos 5) ∷ SumGuess ∷ MeanGuess ∷ []) ++ map series_verb (Count ∷ Mean ∷ CountGuess ∷ MeanGuess ∷ [])
    ≡ codes "query" ∷ codes "query" ∷ codes "query" ∷ codes "estimate" ∷ codes "estimate" ∷ codes "series" ∷ codes "series" ∷ codes "estimates"
    ∷ codes "estimates" ∷ []
kinds-verbs = refl

ends : map end_name (Lo ∷ Hi ∷ []) ≡ codes "lo" ∷ codes "hi" ∷ []
ends = refl

id_of-there : id_of (codes "b") ((codes "a", record { 0 = 0 }) ∷ (codes "b", record { 0 = 7 }) ∷ []) ≡ Some (record { 0 = 7 })
id_of-there = refl

id_of-longer : id_of (codes "bb") ((codes "b", record { 0 = 7 }) ∷ []) ≡ None
id_of-longer = refl

-- three names, where one of them is a part of another
abbrev three_names : List (List ℕ × StreamId)
three_names = (codes "a", record { 0 = 0 }) ∷ (codes "b", record { 0 = 7 }) ∷ (codes "bb", record { 0 = 8 }) ∷ []

without-first : without_name (codes "a") three_names ≡ (codes "b", record { 0 = 7 }) ∷ (codes "bb", record { 0 = 8 }) ∷ []
without-first = refl

without-middle : without_name (codes "b") three_names ≡ (codes "a", record { 0 = 0 }) ∷ (codes "bb", record { 0 = 8 }) ∷ []
without-middle = refl

without-last : without_name (codes "bb") three_names ≡ (codes "a", record { 0 = 0 }) ∷ (codes "b", record { 0 = 7 }) ∷ []
without-last = refl

without-absent : without_name (codes "bbb") three_names ≡ three_names
without-absent = refl

-- the name of each event, and the last time that one may have
names-events : (name : List ℕ) → map event_name
    (events.Create name (Exp 2 1 1) ∷ events.Value name 10 (pos 5) ∷ events.Open name 10 ∷ events.Close name 10 ∷ events.Drop name ∷ []) ≡
    name ∷ name ∷ name ∷ name ∷ name ∷ []
names-events name = refl

in_time-last : (name : List ℕ) → IsInTime (events.Value name LAST_TIME (pos 5)) × IsInTime (events.Open name LAST_TIME) × IsInTime (events.Close name LAST_TIME)
in_time-last name = (omega arith, omega arith, omega arith)

in_time-late : (name : List ℕ) → (IsInTime (events.Value name (LAST_TIME + 1) (pos 5)) → ⊥) × (IsInTime (events.Open name (LAST_TIME + 1)) → ⊥)
    × (IsInTime (events.Close name (LAST_TIME + 1)) → ⊥)
in_time-late name = (λ in_time. omega (arith, in_time), λ in_time. omega (arith, in_time), λ in_time. omega (arith, in_time))

-- events without a time
in_time-timeless : (name : List ℕ) → IsInTime (events.Create name (Exp 2 1 1)) × IsInTime (events.Drop name)
in_time-timeless name = (tt, tt)

most_rows : MOST_ROWS ≡ 100000
most_rows = refl

-- a range of a step and a part of one, one that a step ends, one time, and none
rows-some : map (λ (range : ℕ × ℕ). rows_in range.0 range.1 5) ((3, 12) ∷ (3, 13) ∷ (3, 7) ∷ (3, 8) ∷ (3, 3) ∷ (4, 3) ∷ []) ≡ 2 ∷ 3 ∷ 1 ∷ 2 ∷ 1 ∷ 0 ∷ []
rows-some = refl

rows-widest : rows_in 0 LAST_TIME LAST_TIME ≡ 2
rows-widest = refl

abbrev series : ℕ → Series
series to = record { name = codes "a"; kind = Sum; from = 3; to = to; step = 5 }

-- the rows of 3..=14
queries-rows : map (row_query (series 14)) (0 ∷ 1 ∷ 2 ∷ [])
    ≡ record { name = codes "a"; kind = Sum; from = 3; to = 7 } ∷ record { name = codes "a"; kind = Sum; from = 8; to = 12 }
    ∷ record { name = codes "a"; kind = Sum; from = 13; to = 14 } ∷ []
queries-rows = refl

rows-of : rows_of (series 14) ≡ 0 ∷ 1 ∷ 2 ∷ []
unfolding numbers_from
rows-of = refl

query-whole : whole_query (series 14) ≡ record { name = codes "a"; kind = Sum; from = 3; to = 14 }
query-whole = refl

-- each number of a series at its bound
module _ (name : List ℕ) where
  longest-step : IsSeriesInRange (record { name = name; kind = Sum; from = 0; to = LAST_TIME; step = LAST_TIME })
  longest-step = record { from = omega arith; to = omega arith; some = omega arith; step = omega arith; few = omega arith }

  most-rows : IsSeriesInRange (record { name = name; kind = Sum; from = 0; to = 99999; step = 1 })
  most-rows = record { from = omega arith; to = omega arith; some = omega arith; step = omega arith; few = omega arith }

  more-rows : IsSeriesInRange (record { name = name; kind = Sum; from = 0; to = 100000; step = 1 }) → ⊥
  more-rows series = omega (arith, series.few)

  no-step : IsSeriesInRange (record { name = name; kind = Sum; from = 0; to = 9; step = 0 }) → ⊥
  no-step series = omega (arith, series.some)

  long-step : IsSeriesInRange (record { name = name; kind = Sum; from = 0; to = 9; step = LAST_TIME + 1 }) → ⊥
  long-step series = omega (arith, series.step)

  late-start : IsSeriesInRange (record { name = name; kind = Sum; from = LAST_TIME + 1; to = 9; step = 1 }) → ⊥
  late-start series = omega (arith, series.from)

  late-end : IsSeriesInRange (record { name = name; kind = Sum; from = LAST_TIME; to = LAST_TIME + 1; step = 1 }) → ⊥
  late-end series = omega (arith, series.to)

-- the refusals in the order in which they are tested
abbrev all_refusals : List Refusal
all_refusals = refusals.Line ∷ refusals.Syntax ∷ refusals.Number ∷ refusals.Name ∷ refusals.Param ∷ refusals.Exists ∷ refusals.Streams ∷ refusals.Unknown ∷
    refusals.Open
    ∷ refusals.NotOpen ∷ refusals.Time ∷ refusals.Range ∷ refusals.StreamFull ∷ refusals.StoreFull ∷ refusals.Busy ∷ refusals.NoCursor ∷ refusals.Frame ∷ []

refusals-names : map refusal_name all_refusals ≡ codes "LINE" ∷ codes "SYNTAX" ∷ codes "NUMBER" ∷ codes "NAME" ∷ codes "PARAM" ∷ codes "EXISTS"
    ∷ codes "STREAMS" ∷ codes "UNKNOWN" ∷ codes "OPEN" ∷ codes "NOT_OPEN" ∷ codes "TIME" ∷ codes "RANGE"
    ∷ codes "STREAM_FULL" ∷ codes "STORE_FULL" ∷ codes "BUSY" ∷ codes "NO_CURSOR" ∷ codes "FRAME" ∷ []
refusals-names = refl
