-- What a query is answered, by what is known of its stream.
use Rattle.ss_store.proofs.Common.{◌≡◌, ◌∙◌, ℕ, Bool, List, true, false, refl, sym, ap, Option, Some, None, Result, Ok, Err, ◌↔◌, option_map, position_or_len}
use Rattle.ss_store.proofs.Common.{find_at, DiskView, Step, fine, same_name, Query, shown_by, IsState, IsStream, Stream, state, stream_named, Outcome}
use Rattle.ss_store.proofs.Common.{seen_of, Seen, Answers, Sees, StandsOn, StoreState, Recovers, AskError}
use Rattle.ss_model.specs.Answers.{answer_of, outcome_of}
use Rattle.ss_model.proofs.AnswerLemmas.{answer-exact, answer-holds}
use Rattle.ss_query.specs.Asked.{outcome_seen}
use Rattle.ss_query.proofs.Outcomes.{outcome_seen-seen_of}
use Rattle.ss_store.specs.declared.error.AskError.TheVariants as ask
use Rattle.ss_store.proofs.Among.{IsStream-at}
use Rattle.ss_store.proofs.KeptStates.{AllAgree-recovered}

-- a look and an answer have the same errors
pub error-same : (e other : AskError) (P : Type 0) → ◌≡◌ {A = Result Seen AskError} (Err e) (Err other) ↔ P
    → ◌≡◌ {A = Result Outcome AskError} (Err e) (Err other) ↔ P
error-same e other P both = (λ same. both.0 (cc), λ holds. (let is = both.1 holds in cc))

-- where it is known, no error is answered
pub none-same : (seen : Seen) (outcome : Outcome) (e : AskError) (P : Type 0) → ◌≡◌ {A = Result Seen AskError} (Ok seen) (Err e) ↔ P →
    ◌≡◌ {A = Result Outcome AskError} (Ok outcome) (Err e) ↔ P
none-same seen outcome e P both = (λ same. absurd (cc), λ holds. (let is = both.1 holds in cc))

-- then the store hadn't stopped
pub runs-seen : (stopped : Bool) (seen : Seen) → ◌≡◌ {A = Result Seen AskError} (Ok seen) (Err ask.Stopped) ↔ stopped ≡ true → stopped ≡ false
runs-seen false seen both = refl
runs-seen true seen both = (let is = both.1 refl in cc)

-- a stream of a state, by its name
IsStream-named : (name : List ℕ) (streams : List Stream) (s : Stream) → IsState streams → stream_named name streams ≡ Some s → IsStream s
IsStream-named name streams s state found =
    IsStream-at streams (position_or_len (λ (x : Stream). same_name name x.name) streams) s state
    (sym (find_at (λ (x : Stream). same_name name x.name) streams) ∙ found)

-- what is known of a stream gives its answer
answer-named : (query : Query) (seen : Seen) (o : Option Stream) → ((s : Stream) → o ≡ Some s → IsStream s) →
    option_map (seen_of query.kind query.from query.to) o ≡ Some seen → option_map (answer_of query) o ≡ Some (outcome_seen query.kind seen)
answer-named query seen None are known = absurd (cc)
answer-named query seen (Some s) are known =
    let same : seen_of query.kind query.from query.to s ≡ seen = cc in
    ap (λ (o : Outcome). Some o) (sym (outcome_seen-seen_of query s (are s refl)) ∙ ap (outcome_seen query.kind) same)

module _ {before after : DiskView} (store : StoreState) (query : Query) (kept : StandsOn store before) (runs : store.stopped ≡ false) where
  pub answers-seen : (seen : Seen) (outcome : Outcome) → outcome ≡ outcome_seen query.kind seen →
      Step fine before after (Sees store.records query (Ok seen)) → Step fine before after (Answers store.records query (Ok outcome))
  unfolding outcome_of
  answers-seen seen outcome made step = record {
    tells = step.tells;
    counted = step.counted;
    told = λ told.
        let sees = step.told told in
        let answer : (streams : List Stream) → Recovers streams (shown_by store.records before.told.content) → outcome_of streams query ≡ Some outcome =
        λ streams recovers.
        let state = (AllAgree-recovered store (shown_by store.records before.told.content) streams (kept runs told).shown recovers).1 in
        answer-named query seen (stream_named query.name streams) (λ s found. IsStream-named query.name streams s state found) (sees.seen streams recovers)
        ∙ ap (λ (o : Outcome). Some o) (sym made) in
        record {
          answer = answer;
          truth = λ history stands. answer-holds history query outcome stands.is_history (answer (state history) stands.state);
          exact = λ streams recovers unsplit. answer-exact streams query outcome (answer streams recovers) unsplit;
          reads = sees.reads;
        };
  }
