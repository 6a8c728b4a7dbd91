-- Worked rows of streams whose windows cross no boundary of the clock, each computed from its lines.
use Rattle.ss_program.proofs.Common.{◌≡◌, ◌++◌, [], ◌∷◌, refl, ℕ, List, codes, flat_map, report, plain_talk}
use Rattle.ss_targets.specs.Power.{power_length}
use Rattle.ss_catalog.specs.Series.{numbers_from}
use Rattle.ss_targets.specs.Windowing.{window_index}
use Rattle.ss_bounds.specs.Split.{sum_interval}
use Rattle.std.specs.Fmt.{digits}
use Rattle.ss_catalog.specs.Names.{is_name}
use Rattle.ss_command.specs.Grammar.{meaning}
use Rattle.ss_command.specs.Lines.{ended_lines, unended}
use Rattle.ss_command.specs.Words.{words}
use Rattle.ss_fields.specs.Words.{is_number, number_of, number_up_to, signed_of}
use Rattle.ss_model.specs.Answers.{outcome_of, refuses_query}
use Rattle.ss_model.specs.Newest.{refuses_values}
use Rattle.ss_model.specs.Refusals.{refuses, refuses_reading}
use Rattle.ss_model.specs.State.{state}

-- lines, each with its line end
abbrev text : List (List ℕ) → List ℕ
text ls = flat_map (λ line. line ++ 10 ∷ []) ls

-- within minutes 5 to 6 stay apart at the seventh value, and each minute of a series is one number
report-minutes : report (plain_talk []) (text (
    codes "create a exp 2 1 1 within 60" ∷ codes "append a 10 5" ∷ codes "append a 20 -3" ∷ codes "append a 30 8" ∷ codes "append a 40 1"
    ∷ codes "append a 50 9" ∷ codes "append a 60 2" ∷ codes "append a 70 7" ∷ codes "windows a" ∷ codes "list"
    ∷ codes "series a sum 0 119 60" ∷ codes "query a sum 40 59" ∷ []))
    ≡ text (codes "ok 0 0" ∷ codes "ok 1 1" ∷ codes "ok 2 2" ∷ codes "ok 3 2" ∷ codes "ok 4 3" ∷ codes "ok 5 3" ∷ codes "ok 6 4" ∷ codes "ok 7 4"
    ∷ codes "windows 4" ∷ codes "1 4 4 11 -3 8 10 40" ∷ codes "5 5 1 9 9 9 50 50" ∷ codes "6 6 1 2 2 2 60 60" ∷ codes "7 7 1 7 7 7 70 70"
    ∷ codes "list 1" ∷ codes "a exp 2 1 1 within 60 7 4 0 0"
    ∷ codes "series 2" ∷ codes "0 20 20" ∷ codes "60 9 9" ∷ codes "sum 6 17" ∷ [])
unfolding ended_lines unended meaning words is_number number_of number_up_to signed_of is_name state refuses refuses_reading refuses_query outcome_of
    sum_interval window_index digits numbers_from
report-minutes = refl

-- a landmark over a boundary, whose value is told one by one, and each ten on both sides of it is one number
report-tens : report (plain_talk []) (text (
    codes "create p power 1 0 1 4 within 10" ∷ codes "append p 7 1" ∷ codes "append p 8 2" ∷ codes "landmark p open 9" ∷ codes "append p 9 100"
    ∷ codes "landmark p close 10" ∷ codes "append p 11 3" ∷ codes "append p 12 4" ∷ codes "append p 19 5" ∷ codes "append p 20 6"
    ∷ codes "append p 21 7" ∷ codes "windows p" ∷ codes "query p sum 0 9" ∷ codes "query p sum 10 19" ∷ codes "last p" ∷ codes "values p 0 99"
    ∷ codes "list" ∷ []))
    ≡ text (codes "ok 0 0" ∷ codes "ok 1 1" ∷ codes "ok 2 1" ∷ codes "ok 2 1" ∷ codes "ok 2 1" ∷ codes "ok 2 1" ∷ codes "ok 3 2" ∷ codes "ok 4 2"
    ∷ codes "ok 5 2" ∷ codes "ok 6 3" ∷ codes "ok 7 3" ∷ codes "windows 3" ∷ codes "1 2 2 3 1 2 7 8" ∷ codes "3 5 3 12 3 5 11 19"
    ∷ codes "6 7 2 13 6 7 20 21" ∷ codes "sum 103 103" ∷ codes "sum 12 12" ∷ codes "last 21 21 6 7" ∷ codes "values 1" ∷ codes "9 100"
    ∷ codes "list 1" ∷ codes "p power 1 0 1 4 within 10 7 3 1 1" ∷ [])
unfolding ended_lines unended meaning words is_number number_of number_up_to signed_of is_name state refuses refuses_reading refuses_query refuses_values
    outcome_of sum_interval power_length window_index digits
report-tens = refl

-- each refusal of a step, and steps that are taken
report-refused : report (plain_talk []) (text (
    codes "create a exp 2 1 1 within 0" ∷ codes "create a exp 2 1 1 within 4294967296" ∷ codes "create a exp 2 1 1 within -1"
    ∷ codes "create a exp 1 1 1 within 5" ∷ codes "create a! exp 2 1 1 within 0" ∷ codes "create a! exp 2 1 1 within x"
    ∷ codes "create a exp 2 1 1 within" ∷ codes "create a exp 2 1 1 inside 5" ∷ codes "create a exp 2 1 1 within 5 5"
    ∷ codes "create a within 5 exp 2 1 1" ∷ codes "create a exp 2 1 1 5" ∷ codes "create a power 1 1 1 within 5"
    ∷ codes "create a power 1 1 1 1 within 4294967295" ∷ codes "create a exp 2 1 1 within 0" ∷ codes "create a exp 2 1 1 within 5"
    ∷ codes "create b exp 2 1 1 within 00060" ∷ codes "create c exp 2 1 1" ∷ codes "list" ∷ []))
    ≡ text (codes "refused PARAM" ∷ codes "refused NUMBER" ∷ codes "refused NUMBER" ∷ codes "refused PARAM" ∷ codes "refused NAME"
    ∷ codes "refused NUMBER" ∷ codes "refused SYNTAX" ∷ codes "refused SYNTAX" ∷ codes "refused SYNTAX" ∷ codes "refused SYNTAX"
    ∷ codes "refused SYNTAX" ∷ codes "refused SYNTAX" ∷ codes "ok 0 0" ∷ codes "refused PARAM" ∷ codes "refused EXISTS" ∷ codes "ok 0 0"
    ∷ codes "ok 0 0" ∷ codes "list 3" ∷ codes "a power 1 1 1 1 within 4294967295 0 0 0 0" ∷ codes "b exp 2 1 1 within 60 0 0 0 0"
    ∷ codes "c exp 2 1 1 0 0 0 0" ∷ [])
unfolding ended_lines unended meaning words is_number number_of number_up_to is_name state refuses refuses_reading digits
report-refused = refl
