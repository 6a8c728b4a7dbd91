-- What a state answers to a series, row by row: each row has the answer to its query.
use Rattle.std.specs.Prelude.{◌≡◌, ℕ, List, [], Option, Some}
use Rattle.ss_catalog.specs.Series.{row_query, whole_query}
use Rattle.ss_catalog.specs.declared.refusal.Refusal.{Refusal}
use Rattle.ss_catalog.specs.declared.series.Series.{Series}
use Rattle.ss_model.specs.Answers.{HoldsTruth, IsExactOutcome, outcome_of, refuses_query, split_by}
use Rattle.ss_model.specs.History.{marked_of, values_of, Happened}
use Rattle.ss_model.specs.State.{Stream, state}
use Rattle.ss_model.specs.declared.outcome.Outcome.{Outcome}

-- why a series is refused in a state, where it is: as the query of its whole range is
abbrev pub refuses_series : List Stream → Series → Option Refusal
refuses_series streams series = refuses_query streams (whole_query series)

-- An outcome is the answer to a row after a history: that to its query. It holds the truth over all values of the stream, those
-- outside landmarks and those of landmarks. Where the times of the row split no window it leaves nothing open, but for whether a
-- value is there.
pub record AnswersRow (history : List Happened) (series : Series) (row : ℕ) (outcome : Outcome) : Type 0 where
  pub is : outcome_of (state history) (row_query series row) ≡ Some outcome
  pub truth : HoldsTruth (row_query series row) (values_of history series.name) (marked_of history series.name) outcome
  pub exact : split_by (state history) (row_query series row) ≡ [] → IsExactOutcome outcome
