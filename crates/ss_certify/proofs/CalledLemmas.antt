-- What is made and checked over a store, by what is known of a stream.
use Rattle.std.proofs.Common.{◌≡◌, refl, Bool, false, true, Option, Some, None, Result, Ok, Err, List, ap, subst, sym, ◌∙◌}
use Rattle.std.specs.Prelude.{◌↔◌, IsTrue, IfSome, option_map}
use Rattle.ss_catalog.specs.Queries.{is_certified}
use Rattle.ss_catalog.specs.declared.query.End.{End}
use Rattle.ss_catalog.specs.declared.query.Query.{Query}
use Rattle.ss_model.specs.Answers.{outcome_of}
use Rattle.ss_model.specs.Standing.{IsState, IsStream}
use Rattle.ss_model.specs.State.{Stream, stream_named}
use Rattle.ss_model.specs.declared.outcome.Outcome.{Outcome}
use Rattle.ss_model.proofs.RisingLemmas.{All-named}
use Rattle.ss_outside.specs.Disk.{DiskView}
use Rattle.ss_outside.specs.Step.{Step}
use Rattle.ss_outside.specs.Verdict.{fine}
use Rattle.ss_query.specs.Asked.{HasCuts, seen_of}
use Rattle.ss_query.specs.declared.asking.Seen.{Seen}
use Rattle.ss_records.specs.Kept.{RecordsState, shown_by}
use Rattle.ss_store.specs.Applied.{Sees, StandsOn}
use Rattle.ss_store.specs.Kept.{StoreState}
use Rattle.ss_store.specs.declared.error.AskError.{AskError}
use Rattle.ss_store.proofs.KeptStates.{AllAgree-recovered}
use Rattle.ss_certify.specs.Called.{ChecksEvidence, MakesEvidence}
use Rattle.ss_certify.specs.Evidence.{IsEvidence, end_asked}
use Rattle.ss_certify.specs.Made.{evidence_of}
use Rattle.ss_certify.specs.Shown.{MayBeAnswer}
use Rattle.ss_certify.specs.declared.evidence.Evidence.{Evidence}
use Rattle.ss_certify.proofs.MadeLemmas.{IsEvidence-evidence_of}
use Rattle.ss_certify.proofs.SharpLemmas.{MayBeAnswer-answer, end_asked-answer}

-- a look and what is made of it have the same errors
pub error-same : {B : Type 0} (e other : AskError) (P : Type 0) → ◌≡◌ {A = Result Seen AskError} (Err e) (Err other) ↔ P →
    ◌≡◌ {A = Result B AskError} (Err e) (Err other) ↔ P
error-same e other P both = (λ same. both.0 (cc), λ holds. (let is = both.1 holds in cc))

-- where the look succeeds, there is none
pub none-same : {B : Type 0} (seen : Seen) (made : B) (e : AskError) (P : Type 0) → ◌≡◌ {A = Result Seen AskError} (Ok seen) (Err e) ↔ P →
    ◌≡◌ {A = Result B AskError} (Ok made) (Err e) ↔ P
none-same seen made e P both = (λ same. absurd (cc), λ holds. (let is = both.1 holds in cc))

module _ (query : Query) (end : End) (w : Evidence) (seen : Seen) (right : Bool) (shown : IsTrue right ↔ IsEvidence query.kind end seen w) where
  checked-named : (o : Option Stream) → option_map (seen_of query.kind query.from query.to) o ≡ Some seen →
      IfSome o (λ s. IsTrue right ↔ IsEvidence query.kind end (seen_of query.kind query.from query.to s) w)
  checked-named None known = absurd (cc)
  checked-named (Some s) known =
      let same : seen_of query.kind query.from query.to s ≡ seen = cc in
      subst (λ (k : Seen). IsTrue right ↔ IsEvidence query.kind end k w) (sym same) shown

  true-named : (streams : List Stream) (o : Option Stream) → stream_named query.name streams ≡ o →
      option_map (seen_of query.kind query.from query.to) o ≡ Some seen → right ≡ true → MayBeAnswer streams query w.answer
  true-named streams None found known is = absurd (cc)
  true-named streams (Some s) found known is =
      let same : seen_of query.kind query.from query.to s ≡ seen = cc in
      MayBeAnswer-answer streams query s end w found (subst (λ (k : Seen). IsEvidence query.kind end k w) (sym same) (shown.0 is))

  asked-named : (streams : List Stream) (o : Option Stream) (answer : Option Outcome) → IsState streams → stream_named query.name streams ≡ o →
      option_map (seen_of query.kind query.from query.to) o ≡ Some seen → outcome_of streams query ≡ answer → right ≡ true →
      IfSome answer (λ outcome. end_asked end outcome ≡ Some w.answer)
  asked-named streams None answer state found known answered is = absurd (cc)
  asked-named streams (Some s) None state found known answered is = tt
  asked-named streams (Some s) (Some outcome) state found known answered is =
      let same : seen_of query.kind query.from query.to s ≡ seen = cc in
      let evidence = subst (λ (k : Seen). IsEvidence query.kind end k w) (sym same) (shown.0 is) in
      end_asked-answer streams query s end w found evidence (All-named IsStream query.name streams s state.each found) outcome answered

  pub checks-seen : {before after : DiskView} (store : StoreState) → StandsOn store before → store.stopped ≡ false →
      Step fine before after (Sees store.records query (Ok seen)) → Step fine before after (ChecksEvidence store.records query end w (Ok right))
  checks-seen {before} store kept runs step = record {
    tells = step.tells;
    counted = step.counted;
    told = λ told.
        let sees = step.told told in
        let content = shown_by store.records before.told.content in
        record {
          checked = λ streams recovers. checked-named (stream_named query.name streams) (sees.seen streams recovers);
          sharp = λ streams recovers. true-named streams (stream_named query.name streams) refl (sees.seen streams recovers);
          asked = λ streams recovers.
              let state = (AllAgree-recovered store content streams (kept runs told).shown recovers).1 in
              asked-named streams (stream_named query.name streams) (outcome_of streams query) state refl (sees.seen streams recovers) refl;
          reads = sees.reads;
        };
  }

-- what is made of what is known is the evidence of the state, and shows the end
module _ (query : Query) (end : End) (w : Evidence) (seen : Seen) (made : w ≡ evidence_of query.kind end seen) where
  made-named : (o : Option Stream) → option_map (seen_of query.kind query.from query.to) o ≡ Some seen →
      option_map (λ (s : Stream). evidence_of query.kind end (seen_of query.kind query.from query.to s)) o ≡ Some w
  made-named None known = absurd (cc)
  made-named (Some s) known =
      let same : seen_of query.kind query.from query.to s ≡ seen = cc in
      ap Some (ap (evidence_of query.kind end) same ∙ sym made)

  right-named : (o : Option Stream) → IsEvidence query.kind end seen w → option_map (seen_of query.kind query.from query.to) o ≡ Some seen →
      IfSome o (λ s. IsEvidence query.kind end (seen_of query.kind query.from query.to s) w)
  right-named None shown known = tt
  right-named (Some s) shown known =
      let same : seen_of query.kind query.from query.to s ≡ seen = cc in
      subst (λ (k : Seen). IsEvidence query.kind end k w) (sym same) shown

  pub makes-seen : {before after : DiskView} (was : RecordsState) → is_certified query.kind ≡ true → HasCuts seen →
      Step fine before after (Sees was query (Ok seen)) → Step fine before after (MakesEvidence was query end (Ok w))
  makes-seen was certified has step =
      let shown = subst (IsEvidence query.kind end seen) (sym made) (IsEvidence-evidence_of query.kind end seen certified has) in
      record {
        tells = step.tells;
        counted = step.counted;
        told = λ told.
            let sees = step.told told in
            record {
              made = λ streams recovers. made-named (stream_named query.name streams) (sees.seen streams recovers);
              right = λ streams recovers. right-named (stream_named query.name streams) shown (sees.seen streams recovers);
              reads = sees.reads;
            };
      }
