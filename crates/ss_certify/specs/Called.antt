-- What making evidence and checking it do over a store.
use Rattle.std.specs.Prelude.{◌≡◌, ◌↔◌, Bool, true, IsTrue, IfOk, IfSome, List, Option, Some, Result}
use Rattle.std.specs.Option.{option_map}
use Rattle.ss_catalog.specs.declared.query.End.{End}
use Rattle.ss_catalog.specs.declared.query.Query.{Query}
use Rattle.ss_model.specs.Answers.{outcome_of}
use Rattle.ss_model.specs.State.{Stream, stream_named}
use Rattle.ss_outside.specs.Crash.{OnlyReads}
use Rattle.ss_outside.specs.Disk.{Told}
use Rattle.ss_query.specs.Asked.{seen_of}
use Rattle.ss_records.specs.Kept.{RecordsState, shown_by}
use Rattle.ss_store.specs.Recover.{Recovers}
use Rattle.ss_store.specs.declared.error.AskError.{AskError}
use Rattle.ss_certify.specs.Evidence.{IsEvidence, end_asked}
use Rattle.ss_certify.specs.Made.{evidence_of}
use Rattle.ss_certify.specs.Shown.{MayBeAnswer}
use Rattle.ss_certify.specs.declared.evidence.Evidence.{Evidence}

-- the evidence that a state has for an end of its answer, where the stream stands
abbrev pub evidence_in : List Stream → Query → End → Option Evidence
evidence_in streams query end =
    option_map (λ s. evidence_of query.kind end (seen_of query.kind query.from query.to s)) (stream_named query.name streams)

-- Evidence is made, of what records show. Content and images stay.
pub record MakesEvidence (was : RecordsState) (query : Query) (end : End) (result : Result Evidence AskError) (old new : Told) : Type 0 where
  -- that of the state that they show
  pub made : (streams : List Stream) → Recovers streams (shown_by was old.content) → IfOk result (λ w. evidence_in streams query end ≡ Some w)
  -- which shows the end that is asked for
  pub right : (streams : List Stream) → Recovers streams (shown_by was old.content) → IfOk result (λ w.
      IfSome (stream_named query.name streams) (λ s. IsEvidence query.kind end (seen_of query.kind query.from query.to s) w))
  pub reads : OnlyReads old new

-- Evidence is checked, by what records show. Content and images stay.
pub record ChecksEvidence (was : RecordsState) (query : Query) (end : End) (w : Evidence) (result : Result Bool AskError) (old new : Told) : Type 0 where
  -- it is right exactly where it is evidence in the state that they show
  pub checked : (streams : List Stream) → Recovers streams (shown_by was old.content) → IfOk result (λ right.
      IfSome (stream_named query.name streams) (λ s. IsTrue right ↔ IsEvidence query.kind end (seen_of query.kind query.from query.to s) w))
  -- then its answer is the true one of contents like those of the stream, whatever history the state is of
  pub sharp : (streams : List Stream) → Recovers streams (shown_by was old.content) → IfOk result (λ right. right ≡ true → MayBeAnswer streams query w.answer)
  -- and the asked end of what the state answers
  pub asked : (streams : List Stream) → Recovers streams (shown_by was old.content) → IfOk result (λ right. right ≡ true →
      IfSome (outcome_of streams query) (λ outcome. end_asked end outcome ≡ Some w.answer))
  pub reads : OnlyReads old new
