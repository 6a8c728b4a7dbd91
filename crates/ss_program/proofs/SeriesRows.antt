-- Worked rows of series, each computed from a history.
use Rattle.ss_program.proofs.Common.{◌≡◌, ◌++◌, [], ◌∷◌, refl, ℕ, List, Some, Ok, codes, map, pos, negsuc, flat_map, Create, Value, exp, Query}
use Rattle.ss_catalog.specs.Series.{numbers_from}
use Rattle.ss_program.proofs.Common.{lines, Happened, added, Outcome, OnlyReads, Told, Stands, History, IsAnswerIn, ReadsAnswer, accepted, report, plain_talk}
use Rattle.std.specs.Fmt.{digits}
use Rattle.ss_bounds.specs.Split.{sum_interval}
use Rattle.ss_catalog.specs.Names.{is_name}
use Rattle.ss_command.specs.Grammar.{meaning}
use Rattle.ss_command.specs.Lines.{ended_lines, unended}
use Rattle.ss_command.specs.Words.{words}
use Rattle.ss_fields.specs.Words.{is_number, number_of, number_up_to, signed_of}
use Rattle.ss_model.specs.Answers.{outcome_of, refuses_query}
use Rattle.ss_model.specs.State.{state}
use Rattle.ss_targets.specs.Windowing.{window_index}

-- lines, each with its line end
abbrev text : List (List ℕ) → List ℕ
text ls = flat_map (λ line. line ++ 10 ∷ []) ls

-- seven readings
abbrev readings : List Happened
readings = map added (
    Create (codes "a") (exp 2 1 1) ∷ Value (codes "a") 10 (pos 5) ∷ Value (codes "a") 20 (negsuc 2) ∷ Value (codes "a") 30 (pos 8)
    ∷ Value (codes "a") 40 (pos 1) ∷ Value (codes "a") 50 (pos 9) ∷ Value (codes "a") 60 (pos 2) ∷ Value (codes "a") 70 (pos 7) ∷ [])

-- rows that split a window, rows that split none and one without a value, rows of one time, and each refusal of a series
abbrev series : List ℕ
series =
    text (codes "series a sum 10 70 25" ∷ codes "series a max 0 100 50" ∷ codes "series a min 15 16 1" ∷ codes "series a count 10 10 9"
    ∷ codes "series x sum 5 4 1" ∷ codes "series a sum 5 4 1" ∷ codes "series a median 5 4 1" ∷ codes "series a! sum 0 100000 1"
    ∷ codes "series a! sum 0 99999 1" ∷ [])

report-series : report (plain_talk readings) series
    ≡ text (codes "series 3" ∷ codes "10 -5 16" ∷ codes "35 -3 25" ∷ codes "60 9 16"
    ∷ codes "series 3" ∷ codes "0 8 8" ∷ codes "50 9 9" ∷ codes "100 none"
    ∷ codes "series 2" ∷ codes "15 -3 8 maybe-none" ∷ codes "16 -3 8 maybe-none" ∷ codes "series 1" ∷ codes "10 1 1"
    ∷ codes "refused UNKNOWN" ∷ codes "refused RANGE" ∷ codes "refused SYNTAX" ∷ codes "refused NUMBER" ∷ codes "refused NAME" ∷ [])
unfolding ended_lines unended meaning words is_number number_of number_up_to signed_of is_name state refuses_query outcome_of sum_interval window_index digits
    numbers_from
report-series = refl

-- they add no event
accepted-series : accepted (plain_talk readings) (lines series) ≡ []
unfolding ended_lines unended meaning words is_number number_of number_up_to signed_of is_name state refuses_query outcome_of sum_interval window_index
    numbers_from
accepted-series = refl

-- what is said of a query of a row that was answered
module _ (query : Query) (outcome : Outcome) (old new : Told) (answers : ReadsAnswer (IsAnswerIn query) (Ok outcome) old new) where
  answers-outcome : (history : History) → Stands history old.content → outcome_of (state history) query ≡ Some outcome
  answers-outcome = answers.answer

  answers-reads : OnlyReads old new
  answers-reads = answers.reads
