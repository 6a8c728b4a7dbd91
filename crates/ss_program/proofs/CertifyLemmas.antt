-- What a certificate brings, and that the evidence that is made for it is right.
use Rattle.ss_program.proofs.Common.{◌≡◌, ℕ, ◌<◌, true, false, ◌↔◌, List, ◌∷◌, length, Ok, Option, Some, None, IsTrue, refl, ap, ◌∙◌, arith}
use Rattle.ss_program.proofs.Common.{inl, inr, cases_Bool, length-append, flat_map, is_some, option_map, is_certified, End, Query, Refusal, All-named}
use Rattle.ss_program.proofs.Common.{HasCuts-seen_of, ChecksEvidence, evidence_in, IsEvidence, evidence_of, told, Evidence, Certify, stands}
use Rattle.ss_program.proofs.Common.{Stream, state, stream_named, shown-sealed, IsSealed, DiskView, OfContent, Told, seen_of, RecordsState, shown_by, said_line}
use Rattle.ss_program.proofs.Common.{Reply, StoreState, Recovers, Recovers-StoreIsIn, IsOpen, HasEvidence, History, certified, command_brings, refused}
use Rattle.ss_program.proofs.Common.{only_replies, unless_refused}
use Rattle.ss_certify.proofs.MadeLemmas.{IsEvidence-evidence_of}
use Rattle.ss_model.specs.Answers.{refuses_query}
use Rattle.ss_model.specs.Standing.{IsState, IsStream}
use Rattle.ss_model.proofs.AnswerLemmas.{mapped}
use Rattle.ss_program.proofs.AnswerLemmas.{StoreIsIn-open}
use Rattle.ss_program.proofs.TextLemmas.{said_line-some}

-- ---- the evidence that a state has

-- a query that isn't refused asks a stream that stands
pub query-stands : (streams : List Stream) (query : Query) → refuses_query streams query ≡ None → stands query.name streams ≡ true
unfolding refuses_query
query-stands streams query none = elim (cases_Bool (stands query.name streams)) [
  | inl known ↦ known
  | inr unknown ↦ (let wrong = rw unknown at none in cc)
]

-- so it has evidence
some-mapped : {A B : Type 0} (f : A → B) (o : Option A) → is_some o ≡ true → (b : B) × (option_map f o ≡ Some b)
some-mapped f None known = (let wrong : false ≡ true = known in cc)
some-mapped f (Some a) known = (f a, refl)

pub evidence-known : (streams : List Stream) (query : Query) (end : End) → refuses_query streams query ≡ None →
    (w : Evidence) × (evidence_in streams query end ≡ Some w)
evidence-known streams query end none =
    some-mapped (λ s. evidence_of query.kind end (seen_of query.kind query.from query.to s)) (stream_named query.name streams) (query-stands streams query none)

-- and that is right
pub evidence-right : (streams : List Stream) (query : Query) (end : End) (w : Evidence) → IsState streams → is_certified query.kind ≡ true →
    evidence_in streams query end ≡ Some w →
    (s : Stream) × (stream_named query.name streams ≡ Some s) × IsStream s × IsEvidence query.kind end (seen_of query.kind query.from query.to s) w
evidence-right streams query end w is adds has =
    let found = mapped (λ s. evidence_of query.kind end (seen_of query.kind query.from query.to s)) (stream_named query.name streams) w has in
    let sound = All-named IsStream query.name streams found.0 is.each found.1 in
    let seen = seen_of query.kind query.from query.to found.0 in (
      found.0,
      found.1,
      sound,
      rw found.2 at (IsEvidence-evidence_of query.kind end seen adds (HasCuts-seen_of query.kind query.from query.to found.0 sound)),
    )

-- where nothing is staged the content is what is shown
pub Recovers-only_replies : (records : RecordsState) (content : List ℕ) (streams : List Stream) → IsSealed records.journal → Recovers streams content →
    Recovers streams (shown_by records content)
Recovers-only_replies records content streams sealed recovers = rw shown-sealed recovers

-- so what a store makes isn't found wrong, on a disk that tells
pub never-wrong : (store : StoreState) (disk : DiskView) (query : Query) (end : End) (w : Evidence) (new : Told) → IsOpen disk store →
    is_certified query.kind ≡ true → OfContent disk (HasEvidence query end w) →
    (IsTrue disk.tells → ChecksEvidence store.records query end w (Ok false) disk.told new) → IsTrue disk.tells → ⊥
never-wrong store disk query end w new opens adds made checks told =
    let content = disk.told.content in
    let kept = StoreIsIn-open disk store opens told in
    let recovers = Recovers-StoreIsIn store content kept in
    let right = evidence-right kept.streams query end w kept.state adds (made told kept.streams recovers) in
    let checked = (checks told).checked kept.streams (Recovers-only_replies store.records content kept.streams opens.sealed recovers) in
    let found : IsTrue false ↔ IsEvidence query.kind end (seen_of query.kind query.from query.to right.0) w = rw right.1 at checked in
    let wrong : false ≡ true = found.1 right.3 in
    cc

-- ---- what a line of it brings

-- a query whose certificate is asked for that is refused brings its refusal
pub brings-refused_certify : (history : History) (query : Query) (end : End) (refusal : Refusal) → refuses_query (state history) query ≡ Some refusal →
    command_brings history (Certify query end) ≡ refused refusal
brings-refused_certify history query end refusal is =
    ap (λ r. unless_refused r (only_replies (certified (evidence_in (state history) query end)))) is

-- and one that isn't brings the lines of its evidence
pub brings-certified : (history : History) (query : Query) (end : End) (w : Evidence) → refuses_query (state history) query ≡ None →
    evidence_in (state history) query end ≡ Some w → command_brings history (Certify query end) ≡ only_replies (told w)
brings-certified history query end w none is =
    ap (λ r. unless_refused r (only_replies (certified (evidence_in (state history) query end)))) none ∙ ap (λ o. only_replies (certified o)) is

module _ (speaker : Option ℕ) where
  -- a reply with rows behind it isn't empty
  pub head-some : (head : Reply) (rows : List Reply) → 0 < length (flat_map (said_line speaker) (head ∷ rows))
  head-some head rows = omega (arith, said_line-some speaker head, length-append (said_line speaker head) (flat_map (said_line speaker) rows))
