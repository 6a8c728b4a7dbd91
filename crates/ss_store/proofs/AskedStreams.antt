-- A query to a store: its stream among all, and the refusals of queries.
use Rattle.ss_store.proofs.Common.{◌≡◌, ◌∙◌, Bool, List, [], ◌∷◌, refl, sym, ap, Option, Some, None, Result, Ok, Err, IsTrue, is_some, nat_lt}
use Rattle.ss_store.proofs.Common.{option_map, DiskView, OfContent, Told, Step, IsFirm, fine, Query, Range, Unknown, StreamId, RecordsState, shown_by}
use Rattle.ss_store.proofs.Common.{first_that_applies, Stream, stream_named, AllAgree, StreamParts, seen_of, verdict_of_read, Seen, ReadError, Sees}
use Rattle.ss_store.proofs.Common.{SomeAgree, StoreIsIn, StoreIsKept, StoreState, part_named, Recovers}
use Rattle.ss_model.specs.Answers.{refuses_query}
use Rattle.ss_query.specs.Answered.{IsSeenAs, SeesStream}
use Rattle.ss_parts.specs.declared.read_error.ReadError.TheVariants as error
use Rattle.ss_store.specs.Asked.{refuses_query_held}
use Rattle.ss_store.proofs.Among.{IsHeldIn-at, others_of}
use Rattle.ss_store.proofs.Named.{SomeAgree-named}
use Rattle.ss_store.proofs.KeptStates.{Recovers-StoreIsIn, Recovers-same}
use Rattle.ss_store.proofs.Named.{AreFound-named}

IsFirm-seen : (seen : Seen) (why : ReadError) → IsSeenAs seen (Err why) → IsFirm (verdict_of_read {T = Seen} (Err why))
IsFirm-seen seen error.Disk is = tt
IsFirm-seen seen (error.Changed slot) is = is

-- the stream that is asked, in the state that is kept
record IsAsked (query : Query) (streams : List Stream) (result : Result Seen ReadError) : Type 0 where
  stream : Stream
  found : stream_named query.name streams ≡ Some stream
  seen : IsSeenAs (seen_of query.kind query.from query.to stream) result

module _ {query : Query} {part : StreamParts} {is : RecordsState} (store : StoreState)
    (named : part_named query.name store.streams ≡ Some part) where
  stream-asked : (old new : Told) (result : Result Seen ReadError) (kept : StoreIsIn store (shown_by store.records old.content)) →
      SeesStream part query store.records is result old new → IsAsked query kept.streams result
  stream-asked old new result kept sees =
      let found = AreFound-named store.streams kept.streams query.name part kept.agree kept.state named in
      let others = others_of found.place store.streams kept.streams in
      let held = IsHeldIn-at store.streams kept.streams found.place part found.stream
      (shown_by store.records old.content) kept.agree kept.state found.at found.here kept.held in
      record {
        stream = found.stream;
        found = found.found_is;
        seen = sees.seen others found.stream held;
      }

  -- what is known in the state that is shown
  seen-kept : (old new : Told) (seen : Seen) → StoreIsIn store (shown_by store.records old.content) →
      SeesStream part query store.records is (Ok seen) old new → (streams : List Stream) → Recovers streams (shown_by store.records old.content) →
      option_map (seen_of query.kind query.from query.to) (stream_named query.name streams) ≡ Some seen
  seen-kept old new seen kept sees streams recovers =
      let is = stream-asked old new (Ok seen) kept sees in
      let same = Recovers-same kept.streams streams (shown_by store.records old.content)
      (Recovers-StoreIsIn store (shown_by store.records old.content) kept) recovers in
      let found : stream_named query.name streams ≡ Some is.stream = ap (λ l. stream_named query.name l) (sym same) ∙ is.found in
      ap (option_map (λ (s : Stream). seen_of query.kind query.from query.to s)) found ∙ ap (λ (now : Seen). Some now) (sym is.seen)

  module _ {before after : DiskView} (kept : OfContent before (StoreIsKept store)) where
    pub sees-kept : (seen : Seen) → Step fine before after (SeesStream part query store.records is (Ok seen)) →
        Step fine before after (Sees store.records query (Ok seen))
    sees-kept seen step = record {
      tells = step.tells;
      counted = step.counted;
      told = λ told.
          let sees = step.told told in
          record { seen = seen-kept before.told after.told seen (kept told).shown sees; reads = sees.reads };
    }

    -- no slot has changed on a disk that tells
    pub IsFirm-kept : (why : ReadError) → Step (verdict_of_read {T = Seen} (Err why)) before after (SeesStream part query store.records is (Err why)) →
        IsTrue before.tells → IsFirm (verdict_of_read {T = Seen} (Err why))
    IsFirm-kept why step told =
        let is = stream-asked before.told after.told (Err why) (kept told).shown (step.told told) in
        IsFirm-seen (seen_of query.kind query.from query.to is.stream) why is.seen

known-alike : (part : Option StreamParts) (s : Option Stream) → SomeAgree part s → is_some part ≡ is_some s
known-alike None None agree = refl
known-alike None (Some s) agree = absurd agree
known-alike (Some part) None agree = absurd agree
known-alike (Some part) (Some s) agree = refl

-- refusals of queries by what is held are those of the state that it agrees with
pub refuses_query_held-is : (parts : List StreamParts) (streams : List Stream) (query : Query) → AllAgree parts streams →
    refuses_query_held parts query ≡ refuses_query streams query
unfolding refuses_query_held refuses_query
refuses_query_held-is parts streams query agree =
    let known = known-alike (part_named query.name parts) (stream_named query.name streams) (SomeAgree-named parts streams query.name agree) in
    rw known refl

-- a query is judged by two tests
pub refuses_query_held-unknown : (parts : List StreamParts) (query : Query) → part_named query.name parts ≡ None → refuses_query_held parts query ≡ Some Unknown
unfolding refuses_query_held
refuses_query_held-unknown parts query none = rw none refl

pub refuses_query_held-known : (parts : List StreamParts) (query : Query) (part : StreamParts) (b : Bool) → part_named query.name parts ≡ Some part →
    nat_lt query.to query.from ≡ b → refuses_query_held parts query ≡ first_that_applies ((b, Range) ∷ [])
unfolding refuses_query_held
refuses_query_held-known parts query part b named past = rw (named, past) refl

-- the stream of a name is found where the catalog has its number
pub named-missing : (o : Option StreamParts) → option_map (λ (part : StreamParts). part.id) o ≡ None → o ≡ None
named-missing None none = refl
named-missing (Some part) none = absurd (cc)

pub named-found : (o : Option StreamParts) (id : StreamId) → option_map (λ (part : StreamParts). part.id) o ≡ Some id → (part : StreamParts) × (o ≡ Some part)
named-found None id found = absurd (cc)
named-found (Some part) id found = (part, refl)
