-- Worked rows of certificates, each computed from a history.
use Rattle.ss_program.proofs.Common.{◌≡◌, ◌++◌, [], ◌∷◌, refl, ℕ, List, Some, Ok, codes, map, pos, negsuc, flat_map, Create, Value, exp, End, Query}
use Rattle.ss_program.proofs.Common.{evidence_in, IsEvidence, end_asked, Evidence, lines, Happened, added, Stream, stream_named, Told, seen_of}
use Rattle.ss_program.proofs.Common.{Recovers, HasEvidence, ReadsAnswer, IsSharp, History, accepted, report, plain_talk}
use Rattle.std.specs.Fmt.{digits}
use Rattle.ss_bounds.specs.Attained.{greatest_sum_at, least_sum_at}
use Rattle.ss_bounds.specs.Split.{sum_interval}
use Rattle.ss_catalog.specs.Names.{is_name}
use Rattle.ss_certify.specs.Fill.{fill}
use Rattle.ss_certify.specs.Shown.{IsAnswerOfLike}
use Rattle.ss_command.specs.Grammar.{meaning}
use Rattle.ss_command.specs.Lines.{ended_lines, unended}
use Rattle.ss_command.specs.Words.{words}
use Rattle.ss_fields.specs.Words.{is_number, number_of, number_up_to, signed_of}
use Rattle.ss_laws.specs.Contents.{contents_of}
use Rattle.ss_model.specs.Answers.{outcome_of, refuses_query}
use Rattle.ss_model.specs.State.{state}
use Rattle.ss_targets.specs.Windowing.{window_index}

-- lines, each with its line end
abbrev text : List (List ℕ) → List ℕ
text ls = flat_map (λ line. line ++ 10 ∷ []) ls

-- seven readings
abbrev readings : List Happened
readings = map added (
    Create (codes "a") (exp 2 1 1) ∷ Value (codes "a") 10 (pos 5) ∷ Value (codes "a") 20 (negsuc 2) ∷ Value (codes "a") 30 (pos 8)
    ∷ Value (codes "a") 40 (pos 1) ∷ Value (codes "a") 50 (pos 9) ∷ Value (codes "a") 60 (pos 2) ∷ Value (codes "a") 70 (pos 7) ∷ [])

-- ranges that split one window, two windows and none, and each refusal
abbrev certifies : List ℕ
certifies =
    text (codes "certify a sum lo 10 25" ∷ codes "certify a sum hi 25 55" ∷ codes "certify a count lo 10 40"
    ∷ codes "certify a count hi 10 25" ∷ codes "certify x sum lo 5 4" ∷ codes "certify a sum lo 5 4" ∷ codes "certify a max lo 5 4"
    ∷ codes "certify a sum lo 5 x" ∷ codes "certify a! sum lo 5 4" ∷ [])

report-certifies : report (plain_talk readings) certifies
    ≡ text (codes "certify -5 0 1" ∷ codes "inside 1 4 2 -3*1 -2*1" ∷ codes "outside 1 4 2 8*2"
    ∷ codes "certify 25 0 2" ∷ codes "inside 1 4 2 8*2" ∷ codes "outside 1 4 2 -3*1 -2*1" ∷ codes "inside 5 6 1 9*1" ∷ codes "outside 5 6 1 2*1"
    ∷ codes "certify 4 4 0"
    ∷ codes "certify 3 0 1" ∷ codes "inside 1 4 3 -3*1 -2*1 8*1" ∷ codes "outside 1 4 1 8*1"
    ∷ codes "refused UNKNOWN" ∷ codes "refused RANGE" ∷ codes "refused SYNTAX" ∷ codes "refused NUMBER" ∷ codes "refused NAME" ∷ [])
unfolding ended_lines unended meaning words is_number number_of number_up_to signed_of is_name state refuses_query outcome_of sum_interval window_index digits
    least_sum_at greatest_sum_at fill
report-certifies = refl

-- they add no event
accepted-certifies : accepted (plain_talk readings) (lines certifies) ≡ []
unfolding ended_lines unended meaning words is_number number_of number_up_to signed_of is_name state refuses_query outcome_of sum_interval window_index
    least_sum_at greatest_sum_at fill
accepted-certifies = refl

-- what is said of evidence that was found
module _ (query : Query) (end : End) (w : Evidence) (old new : Told) (finds : ReadsAnswer (HasEvidence query end) (Ok w) old new) where
  finds-evidence : (streams : List Stream) → Recovers streams old.content → evidence_in streams query end ≡ Some w
  finds-evidence = finds.answer

-- and of what it shows
module _ (history : History) (query : Query) (end : End) (w : Evidence) (sharp : IsSharp history query end w) where
  sharp-named : stream_named query.name (state history) ≡ Some sharp.stream
  sharp-named = sharp.named

  sharp-evidence : IsEvidence query.kind end (seen_of query.kind query.from query.to sharp.stream) w
  sharp-evidence = sharp.evidence

  sharp-attained : IsAnswerOfLike (contents_of history sharp.stream) query w.answer
  sharp-attained = sharp.attained

  sharp-answered : outcome_of (state history) query ≡ Some sharp.outcome
  sharp-answered = sharp.answered

  sharp-asked : end_asked end sharp.outcome ≡ Some w.answer
  sharp-asked = sharp.asked
