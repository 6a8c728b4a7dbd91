-- What making evidence and checking it give, field by field.
use Rattle.std.proofs.Common.{◌∙◌, sym}
use Rattle.std.specs.Prelude.{◌≡◌, ◌↔◌, Bool, true, IsTrue, IfSome, List, [], Some, Ok, pos}
use Rattle.ss_catalog.specs.declared.query.End.{End}
use Rattle.ss_catalog.specs.declared.query.Kind.{Kind}
use Rattle.ss_catalog.specs.declared.query.Kind.TheVariants as kinds
use Rattle.ss_query.specs.declared.asking.Seen.{Seen}
use Rattle.ss_catalog.specs.declared.query.Query.{Query}
use Rattle.ss_model.specs.Answers.{outcome_of}
use Rattle.ss_model.specs.State.{Stream, stream_named}
use Rattle.ss_outside.specs.Crash.{OnlyReads}
use Rattle.ss_outside.specs.Disk.{Told}
use Rattle.ss_query.specs.Asked.{seen_of}
use Rattle.ss_records.specs.Kept.{RecordsState, shown_by}
use Rattle.ss_store.specs.Recover.{Recovers}
use Rattle.ss_certify.specs.Called.{ChecksEvidence, MakesEvidence, evidence_in}
use Rattle.ss_certify.specs.Evidence.{IsEvidence, IsRight, end_asked}
use Rattle.ss_certify.specs.Shown.{MayBeAnswer}
use Rattle.ss_certify.specs.declared.evidence.Answer.TheVariants.{Count}
use Rattle.ss_certify.specs.declared.evidence.Evidence.{Evidence}

module _ {old new : Told} (was : RecordsState) (query : Query) (end : End) (w : Evidence) (makes : MakesEvidence was query end (Ok w) old new) where
  makes-made : (streams : List Stream) → Recovers streams (shown_by was old.content) → evidence_in streams query end ≡ Some w
  makes-made = makes.made

  makes-right : (streams : List Stream) → Recovers streams (shown_by was old.content) →
      IfSome (stream_named query.name streams) (λ s. IsEvidence query.kind end (seen_of query.kind query.from query.to s) w)
  makes-right = makes.right

  makes-reads : OnlyReads old new
  makes-reads = makes.reads

module _ {old new : Told} (was : RecordsState) (query : Query) (end : End) (w : Evidence) (right : Bool)
    (checks : ChecksEvidence was query end w (Ok right) old new) where
  checks-checked : (streams : List Stream) → Recovers streams (shown_by was old.content) →
      IfSome (stream_named query.name streams) (λ s. IsTrue right ↔ IsEvidence query.kind end (seen_of query.kind query.from query.to s) w)
  checks-checked = checks.checked

  checks-sharp : (streams : List Stream) → Recovers streams (shown_by was old.content) → right ≡ true → MayBeAnswer streams query w.answer
  checks-sharp = checks.sharp

  checks-asked : (streams : List Stream) → Recovers streams (shown_by was old.content) → right ≡ true →
      IfSome (outcome_of streams query) (λ outcome. end_asked end outcome ≡ Some w.answer)
  checks-asked = checks.asked

  checks-reads : OnlyReads old new
  checks-reads = checks.reads

-- evidence is right by any figures of which it is evidence
right-by : (kind : Kind) (end : End) (seen : Seen) (w : Evidence) → IsEvidence kind end seen w → IsRight kind end w
right-by kind end seen w is = (seen, is)

-- and by none where the answer isn't what its parts have
right-not : (end : End) (w : Evidence) → w.certs.items ≡ [] → w.known ≡ record { over = pos 7; under = 3 } → w.answer ≡ Count 4 → IsRight kinds.Count end w → ⊥
right-not end w none known answer right =
    let there : w.answer ≡ Count w.known.under = rw none at right.1.answers in
    let wrong : Count 4 ≡ Count 3 = sym answer ∙ (rw known at there) in
    cc
