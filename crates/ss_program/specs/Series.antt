-- What asking for a row of a series does.
use Rattle.std.specs.Prelude.{◌≡◌, ℕ, List, Some}
use Rattle.ss_catalog.specs.declared.query.Query.{Query}
use Rattle.ss_model.specs.Answers.{outcome_of}
use Rattle.ss_model.specs.State.{state}
use Rattle.ss_model.specs.declared.outcome.Outcome.{Outcome}
use Rattle.ss_store.specs.Recover.{Stands}
use Rattle.ss_program.specs.Line.{History}

-- a query that isn't refused has this answer
abbrev pub IsAnswerIn : Query → Outcome → List ℕ → Type 0
IsAnswerIn query outcome content = (history : History) → Stands history content → outcome_of (state history) query ≡ Some outcome
