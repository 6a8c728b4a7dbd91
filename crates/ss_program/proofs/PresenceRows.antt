-- Worked rows of queries for a value, each computed from a history.
use Rattle.ss_program.proofs.Common.{◌≡◌, ◌++◌, [], ◌∷◌, refl, ℕ, ℤ, true, false, List, codes, map, pos, negsuc, flat_map, Create, Value, exp, lines, Happened}
use Rattle.ss_program.proofs.Common.{marked_of, values_of, true_presence, New, Old, Origin, accepted, report, plain_talk}
use Rattle.std.specs.Fmt.{digits}
use Rattle.ss_catalog.specs.Names.{is_name}
use Rattle.ss_command.specs.Grammar.{meaning}
use Rattle.ss_command.specs.Lines.{ended_lines, unended}
use Rattle.ss_command.specs.Words.{words}
use Rattle.ss_fields.specs.Words.{is_number, number_of, number_up_to, signed_of}
use Rattle.ss_model.specs.Answers.{outcome_of, refuses_query}
use Rattle.ss_model.specs.Refusals.{refuses}
use Rattle.ss_model.specs.State.{state}
use Rattle.ss_targets.specs.Power.{power_length}
use Rattle.ss_summary.specs.Filters.{bit_of, filter_of, full, has, union}
use Rattle.ss_targets.specs.Windowing.{window_index}

-- lines, each with its line end
abbrev text : List (List ℕ) → List ℕ
text ls = flat_map (λ line. line ++ 10 ∷ []) ls

-- seven readings, all of them old or all new
abbrev readings : Origin → List Happened
readings origin = map (λ event. (event, origin)) (
    Create (codes "a") (exp 2 1 1) ∷ Value (codes "a") 10 (pos 5) ∷ Value (codes "a") 20 (negsuc 2) ∷ Value (codes "a") 30 (pos 8)
    ∷ Value (codes "a") 40 (pos 1) ∷ Value (codes "a") 50 (pos 9) ∷ Value (codes "a") 60 (pos 2) ∷ Value (codes "a") 70 (pos 7) ∷ [])

-- the greatest value of a whole window, another of its values, and none of them; one of a split window, one that lies after the range,
-- and one alone; then each refusal
abbrev presences : List ℕ
presences =
    text (codes "query a has 8 10 40" ∷ codes "query a has 1 10 40" ∷ codes "query a has 4 10 40" ∷ codes "query a has 9 45 55"
    ∷ codes "query a has 7 0 65" ∷ codes "query a has 7 70 70" ∷ codes "query x has 8 5 4" ∷ codes "query a has 8 5 4" ∷ codes "query a has 5 4"
    ∷ codes "query a has x 4 5" ∷ codes "query a! has 8 4 5" ∷ [])

report-presences : report (plain_talk (readings New)) presences
    ≡ text (codes "has present" ∷ codes "has maybe" ∷ codes "has absent" ∷ codes "has maybe" ∷ codes "has absent" ∷ codes "has present"
    ∷ codes "refused UNKNOWN" ∷ codes "refused RANGE" ∷ codes "refused SYNTAX" ∷ codes "refused NUMBER" ∷ codes "refused NAME" ∷ [])
unfolding ended_lines unended meaning words is_number number_of number_up_to signed_of is_name state refuses_query outcome_of window_index
    bit_of filter_of has union
report-presences = refl

-- they add no event
accepted-presences : accepted (plain_talk (readings New)) (lines presences) ≡ []
unfolding ended_lines unended meaning words is_number number_of number_up_to signed_of is_name state refuses_query outcome_of window_index
    bit_of filter_of has union
accepted-presences = refl

-- 5 and 300 in one window: 238 has the bit of 5, and 239 one of its own
report-one_bit : report (plain_talk [])
    (text (codes "create u power 1 0 1 2" ∷ codes "append u 1 5" ∷ codes "append u 2 300" ∷ codes "query u has 238 1 2"
    ∷ codes "query u has 239 1 2" ∷ []))
    ≡ text (codes "ok 0 0" ∷ codes "ok 1 1" ∷ codes "ok 2 1" ∷ codes "has maybe" ∷ codes "has absent" ∷ [])
unfolding ended_lines unended meaning words is_number number_of number_up_to signed_of is_name state refuses refuses_query outcome_of power_length
    window_index digits bit_of filter_of has union
report-one_bit = refl

-- of old values the least and the greatest of a window alone are known, also where a new one is joined to them; then of new ones alone
report-old : report (plain_talk (readings Old))
    (text (codes "query a has 8 10 40" ∷ codes "query a has 4 10 40" ∷ codes "query a has 100 10 40" ∷ codes "append a 80 100"
    ∷ codes "append a 90 200" ∷ codes "query a has 50 70 80" ∷ codes "query a has 101 70 80" ∷ codes "query a has 50 90 90" ∷ []))
    ≡ text (codes "has present" ∷ codes "has maybe" ∷ codes "has absent" ∷ codes "ok 8 4" ∷ codes "ok 9 4" ∷ codes "has maybe"
    ∷ codes "has absent" ∷ codes "has absent" ∷ [])
unfolding ended_lines unended meaning words is_number number_of number_up_to signed_of is_name state refuses refuses_query outcome_of window_index digits
    bit_of filter_of full has union
report-old = refl

-- which values are there doesn't go by what is old
truth-presences : (origin : Origin) →
    map (λ (v : ℤ). true_presence v 10 40 (values_of (readings origin) (codes "a")) (marked_of (readings origin) (codes "a")))
    (pos 8 ∷ pos 1 ∷ pos 4 ∷ pos 9 ∷ []) ≡ true ∷ true ∷ false ∷ false ∷ []
truth-presences origin = refl
