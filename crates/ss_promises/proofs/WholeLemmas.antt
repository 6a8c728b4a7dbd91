-- What is asked over whole steps of the clock is answered exactly.
use Rattle.ss_program.proofs.Common.{◌≡◌, ◌∷◌, [], ℕ, List, map, Some, None, Ok, row_count, row_start, rows_of, Query, Series, meaning, Ask, IsState-state}
use Rattle.ss_program.proofs.Common.{HoldsTruth, IsExactOutcome, IsOfKind, refuses_query, marked_of, values_of, IsHistory, AnswersRow, refuses_series, state}
use Rattle.ss_program.proofs.Common.{Outcome, Answered, SeriesHead, Row, History, brings, only_replies}
use Rattle.ss_command.specs.declared.command.Command.TheVariants.{Series as AskRows}
use Rattle.ss_model.proofs.WholeLemmas.{whole-rows, whole-unsplit}
use Rattle.ss_model.specs.WholeSteps.{AreWholeSteps, HasWholeRows, IsWithin, reached_by}
use Rattle.ss_promises.proofs.LawLemmas.{answered-line, answered-series}

pub whole-line : (history : History) (line : List ℕ) (query : Query) (step : ℕ) → IsHistory history → meaning line ≡ Ok (Some (Ask query)) →
    refuses_query (state history) query ≡ None → IsWithin step (state history) query.name →
    AreWholeSteps step (reached_by (state history) query.name) query.from query.to →
    (outcome : Outcome) × (brings history line ≡ only_replies (Answered outcome ∷ [])) × IsOfKind query.kind outcome
    × HoldsTruth query (values_of history query.name) (marked_of history query.name) outcome × IsExactOutcome outcome
whole-line history line query step whole means none within steps =
    let it = answered-line history line query whole means none in
    (it.0, it.1, it.2, it.3, it.4 (whole-unsplit (state history) query step (IsState-state history whole) within steps))

pub whole-series : (history : History) (line : List ℕ) (series : Series) (step : ℕ) → IsHistory history → meaning line ≡ Ok (Some (AskRows series)) →
    refuses_series (state history) series ≡ None → IsWithin step (state history) series.name →
    HasWholeRows step (reached_by (state history) series.name) series →
    (answers : ℕ → Outcome)
    × (brings history line ≡ only_replies (SeriesHead series.kind (row_count series) ∷ map (λ row. Row (row_start series row) (answers row)) (rows_of series)))
    × ((row : ℕ) → AnswersRow history series row (answers row) × IsExactOutcome (answers row))
whole-series history line series step whole means none within steps =
    let it = answered-series history line series whole means none in (
      it.0,
      it.1,
      λ row. (it.2 row, whole-rows (state history) series step row (it.0 row) (IsState-state history whole) within steps (it.2 row).is),
    )
