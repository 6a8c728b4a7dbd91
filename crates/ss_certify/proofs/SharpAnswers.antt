-- Both ends of an answer of count, of sum or of mean may be the true one, since evidence can be made for each.
use Rattle.std.specs.Prelude.{◌≡◌, ℕ, true, ℤ, pos, List, Some}
use Rattle.std.proofs.Common.{ap, refl, subst, sym, ◌∙◌}
use Rattle.std.proofs.lemmas.Option.{same_Some}
use Rattle.ss_bounds.specs.declared.mean.Mean.{Mean}
use Rattle.ss_catalog.specs.Queries.{is_certified}
use Rattle.ss_catalog.specs.declared.query.End.{End}
use Rattle.ss_catalog.specs.declared.query.End.TheVariants.{Lo, Hi}
use Rattle.ss_catalog.specs.declared.query.Kind.TheVariants as kinds
use Rattle.ss_catalog.specs.declared.query.Query.{Query}
use Rattle.ss_laws.specs.Attained.{IsTruthOfLike, MayBeTrue, truth_of_kind}
use Rattle.ss_laws.specs.Contents.{Contents, contents_of, count_in, sum_in}
use Rattle.ss_laws.specs.Moved.{MayBeCounted}
use Rattle.ss_laws.proofs.MovedLemmas.{MayBeCounted-true}
use Rattle.ss_model.specs.Answers.{outcome_of}
use Rattle.ss_model.specs.State.{Stream, stream_named}
use Rattle.ss_model.specs.declared.outcome.Outcome.{Outcome}
use Rattle.ss_model.specs.declared.outcome.Outcome.TheVariants as outcomes
use Rattle.ss_model.proofs.AnswerLemmas.{answer-kind}
use Rattle.ss_query.specs.Asked.{seen_of}
use Rattle.ss_certify.specs.Evidence.{answer_from, end_asked, mean_end}
use Rattle.ss_certify.specs.Made.{evidence_of}
use Rattle.ss_certify.specs.Shown.{IsAnswerOfLike, MayBeAnswer, values_in}
use Rattle.ss_certify.specs.declared.evidence.Answer.{Answer}
use Rattle.ss_certify.specs.declared.evidence.Answer.TheVariants as answers
use Rattle.ss_certify.proofs.MadeLemmas.{IsEvidence-evidence_of}
use Rattle.ss_certify.proofs.SharpLemmas.{HasCuts-seen_of, IsStream-named, MayBeAnswer-answer, end_asked-answer}

-- so each end of an answer may be the true one
module _ (streams : List Stream) (query : Query) (outcome : Outcome) (answered : outcome_of streams query ≡ Some outcome)
    (has : is_certified query.kind ≡ true) where
  MayBeAnswer-end : (end : End) (answer : Answer) → end_asked end outcome ≡ Some answer → MayBeAnswer streams query answer
  MayBeAnswer-end end answer asked history s whole is found =
      let sound = IsStream-named history query.name s whole (ap (stream_named query.name) is ∙ found) in
      let seen = seen_of query.kind query.from query.to s in
      let w = evidence_of query.kind end seen in
      let shown = IsEvidence-evidence_of query.kind end seen has (HasCuts-seen_of query.kind query.from query.to s sound) in
      let same = sym (end_asked-answer streams query s end w found shown sound outcome answered) ∙ asked in
      subst (IsAnswerOfLike (contents_of history s) query) (same_Some w.answer answer same)
      (MayBeAnswer-answer streams query s end w found shown history s whole is found)

-- as a number
count-truth : (actual : Contents) (query : Query) (n : ℕ) → query.kind ≡ kinds.Count → IsAnswerOfLike actual query (answers.Count n)
    → IsTruthOfLike actual query (pos n)
count-truth actual query n kind at =
    let here : answers.Count (count_in query.from query.to at.contents) ≡ answers.Count n =
    sym (ap (λ k. answer_from k (values_in query.from query.to at.contents)) kind) ∙ at.truth in
    let same : count_in query.from query.to at.contents ≡ n = cc in
    record {
      contents = at.contents;
      sound = at.sound;
      like = at.like;
      truth = ap (λ k. truth_of_kind k query.from query.to at.contents) kind ∙ ap (λ m. Some (pos m)) same;
    }

sum-truth : (actual : Contents) (query : Query) (v : ℤ) → query.kind ≡ kinds.Sum → IsAnswerOfLike actual query (answers.Sum v)
    → IsTruthOfLike actual query v
sum-truth actual query v kind at =
    let here : answers.Sum (sum_in query.from query.to at.contents) ≡ answers.Sum v =
    sym (ap (λ k. answer_from k (values_in query.from query.to at.contents)) kind) ∙ at.truth in
    let same : sum_in query.from query.to at.contents ≡ v = cc in
    record {
      contents = at.contents;
      sound = at.sound;
      like = at.like;
      truth = ap (λ k. truth_of_kind k query.from query.to at.contents) kind ∙ ap Some same;
    }

pub MayBeTrue-counts : (streams : List Stream) (query : Query) (lo hi : ℕ) → outcome_of streams query ≡ Some (outcomes.Count lo hi)
    → MayBeTrue streams query (pos lo) × MayBeTrue streams query (pos hi)
MayBeTrue-counts streams query lo hi answered =
    let kind = answer-kind streams query (outcomes.Count lo hi) answered in
    let end = MayBeAnswer-end streams query (outcomes.Count lo hi) answered (ap is_certified kind) in (
      λ history s whole is found. count-truth (contents_of history s) query lo kind (end Lo (answers.Count lo) refl history s whole is found),
      λ history s whole is found. count-truth (contents_of history s) query hi kind (end Hi (answers.Count hi) refl history s whole is found),
    )

pub MayBeTrue-sums : (streams : List Stream) (query : Query) (lo hi : ℤ) → outcome_of streams query ≡ Some (outcomes.Sum lo hi)
    → MayBeTrue streams query lo × MayBeTrue streams query hi
MayBeTrue-sums streams query lo hi answered =
    let kind = answer-kind streams query (outcomes.Sum lo hi) answered in
    let end = MayBeAnswer-end streams query (outcomes.Sum lo hi) answered (ap is_certified kind) in (
      λ history s whole is found. sum-truth (contents_of history s) query lo kind (end Lo (answers.Sum lo) refl history s whole is found),
      λ history s whole is found. sum-truth (contents_of history s) query hi kind (end Hi (answers.Sum hi) refl history s whole is found),
    )

pub MayBeAnswer-means : (streams : List Stream) (query : Query) (known : Mean) (end : End) → outcome_of streams query ≡ Some (outcomes.Mean known)
    → MayBeAnswer streams query (answers.Mean (mean_end end known))
MayBeAnswer-means streams query known Lo answered =
    MayBeAnswer-end streams query (outcomes.Mean known) answered (ap is_certified (answer-kind streams query (outcomes.Mean known) answered)) Lo _ refl
MayBeAnswer-means streams query known Hi answered =
    MayBeAnswer-end streams query (outcomes.Mean known) answered (ap is_certified (answer-kind streams query (outcomes.Mean known) answered)) Hi _ refl

-- and each end of a count with all filters as they are
pub MayBeCounted-counts : (streams : List Stream) (query : Query) (lo hi : ℕ) → outcome_of streams query ≡ Some (outcomes.Count lo hi)
    → MayBeCounted streams query lo × MayBeCounted streams query hi
MayBeCounted-counts streams query lo hi answered =
    let kind = answer-kind streams query (outcomes.Count lo hi) answered in
    let both = MayBeTrue-counts streams query lo hi answered in
    (MayBeCounted-true streams query lo kind both.0, MayBeCounted-true streams query hi kind both.1)
