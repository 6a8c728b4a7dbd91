-- What showing a certificate does, and what is said of its evidence.
use Rattle.std.specs.Prelude.{◌≡◌, ℕ, List, [], ◌∷◌, true, false, Some, flat_map}
use Rattle.ss_catalog.specs.declared.query.End.{End}
use Rattle.ss_catalog.specs.declared.query.Kind.{Kind}
use Rattle.ss_catalog.specs.declared.query.Query.{Query}
use Rattle.ss_certify.specs.Called.{evidence_in}
use Rattle.ss_certify.specs.Evidence.{end_asked, IsEvidence, IsRight}
use Rattle.ss_certify.specs.Shown.{IsAnswerOfLike}
use Rattle.ss_certify.specs.Told.{side_of, told}
use Rattle.ss_certify.specs.declared.evidence.Evidence.{Evidence}
use Rattle.ss_laws.specs.Contents.{contents_of}
use Rattle.ss_model.specs.Answers.{outcome_of}
use Rattle.ss_model.specs.State.{Stream, state, stream_named}
use Rattle.ss_model.specs.declared.outcome.Outcome.{Outcome}
use Rattle.ss_parts.specs.declared.parts.StreamParts.{StreamParts}
use Rattle.ss_query.specs.Asked.{seen_of}
use Rattle.ss_report.specs.declared.reply.Reply.{Reply}
use Rattle.ss_store.specs.Recover.{Recovers}
use Rattle.ss_program.specs.Line.{History}
use Rattle.ss_program.specs.Rows.{rows_left}
use Rattle.ss_program.specs.declared.rows.Rows.{Rows}

-- the content has this evidence: it is that of each state to which it recovers
abbrev pub HasEvidence : Query → End → Evidence → List ℕ → Type 0
HasEvidence query end w content = (streams : List Stream) → Recovers streams content → evidence_in streams query end ≡ Some w

-- the lines of evidence behind its head: two of each window that the range splits
abbrev pub sides_told : Evidence → List Reply
sides_told w = flat_map (λ c. side_of c true ∷ side_of c false ∷ []) w.certs.items

-- Over every disk: the head and the lines behind it are those of evidence that is right, whatever streams are held then.
abbrev pub AreRight : Kind → End → (Reply × Rows) → Type 0
AreRight kind end begun = (w : Evidence) × IsRight kind end w ×
    ((parts : List StreamParts) (streams : List Stream) → begun.0 ∷ rows_left begun.1 parts streams ≡ told w)

-- After a history, evidence shows of a stream that this end of the answer can't be narrower, filters aside: contents like those of
-- the stream have it as their true answer.
pub record IsSharp (history : History) (query : Query) (end : End) (w : Evidence) : Type 0 where
  pub stream : Stream
  pub outcome : Outcome
  pub named : stream_named query.name (state history) ≡ Some stream
  pub evidence : IsEvidence query.kind end (seen_of query.kind query.from query.to stream) w
  pub attained : IsAnswerOfLike (contents_of history stream) query w.answer
  pub answered : outcome_of (state history) query ≡ Some outcome
  pub asked : end_asked end outcome ≡ Some w.answer
