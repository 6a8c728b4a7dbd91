-- What some definitions come to at one answer each, where nothing else would tell if they said less.
use Rattle.ss_store.proofs.Common.{◌≡◌, ◌⊎◌, ℕ, ◌+◌, ◌-◌, ◌*◌, ◌≤◌, Bool, true, false, List, [], ◌∷◌, ◌++◌, map, length, Err, None, Ok, Some, pos, refl}
use Rattle.ss_store.proofs.Common.{Contains, IfSome, max, option_map, LeavesOnly, OnlyReads, DiskView, NothingPending, Told, Verdict, event_name, Event, exp}
use Rattle.ss_store.proofs.Common.{Query, Refusal, At, full, Happened, added, IsReadWithinTarget, cover, steps_met, Stream, stream_named, stream_numbered}
use Rattle.ss_store.proofs.Common.{values_in, Outcome, Ack, Placed, window_slots_of, seen_of, Seen, RecordsState, shown_by, entries_of, slots_held}
use Rattle.ss_store.proofs.Common.{StreamParts, lengths_of, rule_of, params_of, Answers, Applies, IsFew, Looks, SealsStore, Sees, ShowsWindow, is_plain_value}
use Rattle.ss_store.proofs.Common.{leaves_no_value, StagesEvent, StandsForEither, verdict_of_apply, verdict_of_opening, ends_held, SameButSpare, StoreState}
use Rattle.ss_store.proofs.Common.{is_of_landmark, part_named, ApplyError, Recovers, Stands, IsShort, StandsShort, survey_of}
use Rattle.std.specs.Prelude.{Option, flat_map}
use Rattle.ss_outside.specs.Verdict as verdicts
use Rattle.ss_catalog.specs.declared.event.Event.TheVariants as events
use Rattle.ss_catalog.specs.declared.refusal.Refusal.TheVariants as refusal
use Rattle.ss_model.specs.Answers.{IsExactOutcome, split_by}
use Rattle.ss_model.specs.Refusals.{refuses}
use Rattle.ss_model.specs.State.{state}
use Rattle.ss_store.specs.Errors.{stopped_after}
use Rattle.ss_store.specs.declared.error.ApplyError.TheVariants as apply
use Rattle.ss_store.specs.declared.error.OpenError.TheVariants as opening

-- the name `a`
abbrev a : List ℕ
a = 97 ∷ []

-- the verdict of each answer of an event
apply-verdicts : (r : Refusal) (slot : ℕ) →
    (verdict_of_apply {T = ℕ} (Ok 1) ≡ verdicts.fine) × (verdict_of_apply {T = Unit {0}} (Err (apply.Refused r)) ≡ verdicts.refused)
    × (verdict_of_apply {T = Unit {0}} (Err apply.Disk) ≡ verdicts.failed) × (verdict_of_apply {T = Unit {0}} (Err apply.Stopped) ≡ verdicts.stopped)
    × (verdict_of_apply {T = Unit {0}} (Err apply.OutOfMemory) ≡ verdicts.no_memory)
    × (verdict_of_apply {T = Unit {0}} (Err (apply.Changed slot)) ≡ verdicts.changed slot)
apply-verdicts r slot = (refl, refl, refl, refl, refl, refl)

-- of each answer of opening
opening-verdicts : (n slot : ℕ) →
    (verdict_of_opening {T = ℕ} (Ok 1) ≡ verdicts.fine) × (verdict_of_opening {T = Unit {0}} (Err opening.Disk) ≡ verdicts.failed)
    × (verdict_of_opening {T = Unit {0}} (Err opening.NotAStore) ≡ verdicts.refused)
    × (verdict_of_opening {T = Unit {0}} (Err (opening.BadEntry n)) ≡ verdicts.refused)
    × (verdict_of_opening {T = Unit {0}} (Err (opening.BadSlot n)) ≡ verdicts.refused)
    × (verdict_of_opening {T = Unit {0}} (Err (opening.BadStream n)) ≡ verdicts.refused)
    × (verdict_of_opening {T = Unit {0}} (Err opening.OutOfMemory) ≡ verdicts.no_memory)
    × (verdict_of_opening {T = Unit {0}} (Err (opening.Changed slot)) ≡ verdicts.changed slot)
opening-verdicts n slot = (refl, refl, refl, refl, refl, refl, refl, refl)

-- a store stops where the disk fails or a record has changed, and stays as it was at every other verdict
stops : (was : Bool) (slot : ℕ) →
    (stopped_after was verdicts.fine ≡ was) × (stopped_after was verdicts.refused ≡ was) × (stopped_after was verdicts.no_memory ≡ was)
    × (stopped_after was verdicts.stopped ≡ was) × (stopped_after was verdicts.failed ≡ true) × (stopped_after was (verdicts.changed slot) ≡ true)
stops was slot = (refl, refl, refl, refl, refl, refl)

-- stores that are the same but for the room to spare have the same records
same-records : {old new : StoreState} → SameButSpare old new → new.records ≡ old.records
same-records same = same.records

-- no image stands for events of a stream that was never created
Stands-no_value : (image : List ℕ) → Stands (added (events.Value (97 ∷ []) 10 (pos 5)) ∷ []) image → ⊥
unfolding refuses state
Stands-no_value image stands =
    let accepted : Some refusal.Unknown ≡ None = stands.is_history.accepted [] [] (added (events.Value (97 ∷ []) 10 (pos 5))) refl in cc

Stands-no_open : (image : List ℕ) → Stands (added (events.Open (97 ∷ []) 10) ∷ []) image → ⊥
unfolding refuses state
Stands-no_open image stands =
    let accepted : Some refusal.Unknown ≡ None = stands.is_history.accepted [] [] (added (events.Open (97 ∷ []) 10)) refl in cc

Stands-no_close : (image : List ℕ) → Stands (added (events.Close (97 ∷ []) 10) ∷ []) image → ⊥
unfolding refuses state
Stands-no_close image stands =
    let accepted : Some refusal.Unknown ≡ None = stands.is_history.accepted [] [] (added (events.Close (97 ∷ []) 10)) refl in cc

Stands-no_drop : (image : List ℕ) → Stands (added (events.Drop (97 ∷ [])) ∷ []) image → ⊥
unfolding refuses state
Stands-no_drop image stands =
    let accepted : Some refusal.Unknown ≡ None = stands.is_history.accepted [] [] (added (events.Drop (97 ∷ []))) refl in cc

-- which events are values outside landmarks, which are of landmarks, and which leave no value
abbrev events_of : List Event
events_of = events.Create a (exp 2 1 1) ∷ events.Value a 10 (pos 5) ∷ events.Open a 10 ∷ events.Close a 10 ∷ events.Drop a ∷ []

kinds-plain_value : map (λ event. is_plain_value [] event) events_of ≡ false ∷ true ∷ false ∷ false ∷ false ∷ []
kinds-plain_value = refl

kinds-of_landmark : map (λ event. is_of_landmark [] event) events_of ≡ false ∷ false ∷ true ∷ true ∷ false ∷ []
kinds-of_landmark = refl

kinds-empty : map leaves_no_value events_of ≡ true ∷ false ∷ false ∷ false ∷ true ∷ []
kinds-empty = refl

-- at most 2(K + B - 1) - 1 windows
few-windows : (parts : List StreamParts) (event : Event) (ack : Ack) → IsFew parts event ack →
    IfSome (part_named (event_name event) parts) (λ part.
    let rule = rule_of (params_of part.target) in
    ack.k + 1 ≤ 2 * (cover rule.lengths ack.n + steps_met rule.step (ends_held (entries_of part)) - 1))
few-windows parts event ack few = few

-- what an event says, by its answer
module _ (event : Event) (old new : StoreState) (before after : DiskView) where
  applies-extent : (ack : Ack) → Applies event old new before after (Ok ack) →
      new.records.journal.extent ≤ max old.records.journal.extent (length (flat_map slots_held old.streams) + 1)
  applies-extent ack applies = applies.extent

  applies-empty : (ack : Ack) → leaves_no_value event ≡ true → Applies event old new before after (Ok ack) → ack ≡ record { n = 0; k = 0 }
  applies-empty ack is applies = applies.empty is

  applies-decay : (ack : Ack) → is_plain_value old.streams event ≡ true → Applies event old new before after (Ok ack) → IsFew new.streams event ack
  applies-decay ack is applies = applies.decay is

  applies-changed : (slot : ℕ) → Applies event old new before after (Err (apply.Changed slot)) →
      IfSome (part_named (event_name event) new.streams) (λ part. Contains (window_slots_of part) slot)
  applies-changed slot applies = applies.changed

  looks-streams : (v : Verdict) → Looks v old new before after → new.streams ≡ old.streams
  looks-streams v looks = looks.streams

  looks-live : (v : Verdict) → Looks v old new before after → new.records.live ≡ old.records.live
  looks-live v looks = looks.live

  looks-journal : Looks verdicts.fine old new before after → new.records.journal ≡ old.records.journal
  looks-journal looks = looks.journal

-- what a look, an answer and a window that is shown say
module _ (old new : Told) where
  sees-reads : (was : RecordsState) (query : Query) (seen : Seen) → Sees was query (Ok seen) old new →
      ((streams : List Stream) → Recovers streams (shown_by was old.content) →
      option_map (seen_of query.kind query.from query.to) (stream_named query.name streams) ≡ Some seen) × OnlyReads old new
  sees-reads was query seen sees = (sees.seen, sees.reads)

  answers-exact : (was : RecordsState) (query : Query) (outcome : Outcome) → Answers was query (Ok outcome) old new →
      (streams : List Stream) → Recovers streams (shown_by was old.content) → split_by streams query ≡ [] → IsExactOutcome outcome
  answers-exact was query outcome answers = answers.exact

  shows-within : (number : ℕ) (at : At) (store : StoreState) (placed : Placed) → ShowsWindow number at store (Ok placed) old new →
      (history : List Happened) → Stands history (shown_by store.records old.content) →
      IfSome (stream_numbered number (state history)) (λ s. IsReadWithinTarget (lengths_of s.params) (values_in s) placed)
  shows-within number at store placed shows = shows.within

  -- what a seal keeps of the state that is shown, at Ok and in a crash
  seals-state : (was is : StoreState) (u : Unit {0}) (streams : List Stream) → SealsStore was is (Ok u) old new →
      Recovers streams (shown_by was.records old.content) → Recovers streams (shown_by is.records new.content)
  seals-state was is u streams seals = (seals.state streams).content

  seals-history : (was is : StoreState) (u : Unit {0}) (used : Option ℕ) (sealed history : List Happened) → SealsStore was is (Ok u) old new →
      NothingPending old → StandsShort used sealed old.content → StandsShort used history (shown_by was.records old.content) →
      LeavesOnly old new (λ image. StandsShort used sealed image ⊎ StandsShort used history image) × NothingPending new
  seals-history was is u used sealed history seals none before shown =
      ((seals.history history).any_moment none used sealed before shown, (seals.history history).durable none)

  -- what staging leaves, at Ok and in a crash
  stages-history : (event : Event) (was is : RecordsState) (ack : Ack) (used : Option ℕ) (sealed history : List Happened) →
      StagesEvent {E = ApplyError} event was is (Ok ack) old new → NothingPending old → StandsShort used sealed old.content →
      StandsShort used history (shown_by was old.content) →
      StandsShort used (history ++ added event ∷ []) (shown_by is new.content)
      × LeavesOnly old new (λ image. StandsShort used sealed image ⊎ (StandsForEither history event image × IsShort used history image))
      × NothingPending new
  stages-history event was is ack used sealed history stages none before shown = (
    ((stages history).content shown.0, (stages history).short used shown),
    (stages history).any_moment none used sealed before shown,
    (stages history).durable none,
  )

-- a survey counts streams, windows, landmarks and the values of these
surveyed : Stream
surveyed = record {
  number = 7;
  name = a;
  params = exp 2 1 1;
  windows =
      record { first = 1; summary = record { count = 1; sum = pos 1; min = pos 1; max = pos 1; t_first = 5; t_last = 5; filter = full } }
      ∷ record { first = 2; summary = record { count = 1; sum = pos 1; min = pos 1; max = pos 1; t_first = 6; t_last = 6; filter = full } } ∷ [];
  landmarks =
      record { start = 10; finish = Some 20; values = map (λ t. record { t = t; v = pos 1 }) (10 ∷ 11 ∷ 12 ∷ []) } ∷ [];
}

survey-one : survey_of (surveyed ∷ []) ≡ record { streams = 1; windows = 2; landmarks = 1; values = 3 }
unfolding surveyed
survey-one = refl
