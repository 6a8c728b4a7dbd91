-- Worked rows of series, each computed from a history.
use Rattle.ss_model.proofs.Common.{◌≡◌, ℕ, List, [], ◌∷◌, map, Some, None, refl, codes, row_query, rows_of, Create, Value, exp, Unknown, Range, Series}
use Rattle.ss_model.proofs.Common.{HoldsTruth, IsExactOutcome, split_by, marked_of, values_of, Happened, added, AnswersRow, refuses_series, Outcome, Has, Sum}
use Rattle.ss_model.proofs.Common.{Absent, Maybe}
use Rattle.std.specs.Prelude.{pos, negsuc}
use Rattle.ss_bounds.specs.Split.{sum_interval}
use Rattle.ss_catalog.specs.Series.{numbers_from}
use Rattle.ss_catalog.specs.declared.query.Kind.TheVariants as kinds
use Rattle.ss_summary.specs.Filters.{bit_of, filter_of, has, union}
use Rattle.ss_targets.specs.Windowing.{window_index}
use Rattle.ss_model.specs.Answers.{outcome_of, refuses_query}
use Rattle.ss_model.specs.State.{state}

-- a stream and seven readings
readings : List Happened
readings = map added (
    Create (codes "a") (exp 2 1 1) ∷ Value (codes "a") 10 (pos 5) ∷ Value (codes "a") 20 (negsuc 2) ∷ Value (codes "a") 30 (pos 8)
    ∷ Value (codes "a") 40 (pos 1) ∷ Value (codes "a") 50 (pos 9) ∷ Value (codes "a") 60 (pos 2) ∷ Value (codes "a") 70 (pos 7) ∷ [])

abbrev series : List ℕ → ℕ → ℕ → Series
series name from to = record { name = name; kind = kinds.Sum; from = from; to = to; step = 25 }

abbrev series_of_eight : ℕ → ℕ → Series
series_of_eight from to = record { name = codes "a"; kind = kinds.Has (pos 8); from = from; to = to; step = 25 }

-- the rows 10 to 34, 35 to 59 and 60 to 70, of which each splits a window
answers-rows : map (λ row. outcome_of (state readings) (row_query (series (codes "a") 10 70) row)) (rows_of (series (codes "a") 10 70)) ≡
    Some (Sum (negsuc 4) (pos 16)) ∷ Some (Sum (negsuc 2) (pos 25)) ∷ Some (Sum (pos 9) (pos 16)) ∷ []
unfolding outcome_of state window_index sum_interval readings numbers_from
answers-rows = refl

-- the same rows of whether 8 is there: it isn't in the last one, where no window has both its bit and room for it
presence-rows : map (λ row. outcome_of (state readings) (row_query (series_of_eight 10 70) row)) (rows_of (series_of_eight 10 70)) ≡
    Some (Has Maybe) ∷ Some (Has Maybe) ∷ Some (Has Absent) ∷ []
unfolding outcome_of state window_index readings numbers_from bit_of filter_of has union
presence-rows = refl

-- the name is tested before the range
refusals-readings : map (refuses_series (state readings))
    (series (codes "a") 10 70 ∷ series (codes "a") 5 5 ∷ series (codes "a") 5 4 ∷ series (codes "x") 5 4 ∷ series (codes "x") 4 5 ∷ [])
    ≡ None ∷ None ∷ Some Range ∷ Some Unknown ∷ Some Unknown ∷ []
unfolding refuses_query state window_index readings
refusals-readings = refl

-- what the answer to a row says
module _ (history : List Happened) (s : Series) (row : ℕ) (outcome : Outcome) (answers : AnswersRow history s row outcome) where
  row-is : outcome_of (state history) (row_query s row) ≡ Some outcome
  row-is = answers.is

  row-truth : HoldsTruth (row_query s row) (values_of history s.name) (marked_of history s.name) outcome
  row-truth = answers.truth

  row-exact : split_by (state history) (row_query s row) ≡ [] → IsExactOutcome outcome
  row-exact = answers.exact
