-- How many events gave a stream what it has: as many as its history has of it after its last create.
use Rattle.ss_store.proofs.Common.{◌≡◌, ◌≢◌, ◌∙◌, ℕ, ℤ, ◌+◌, true, false, List, [], ◌∷◌, ◌++◌, length, refl, ap, sym, arith, None, Some, inl, inr}
use Rattle.ss_store.proofs.Common.{cond, is_some, All, count_by, cases_Bool, not-false, append-nil, length_push, filter-append, sum_by-cons}
use Rattle.ss_store.proofs.Common.{event_name, Event, Create, Value, Drop, Params, Landmark, LandmarkValue, all_values, change_last, closed_at}
use Rattle.ss_store.proofs.Common.{opened_at, FollowFrom, cases-finish, all_values-close, all_values-open, all_values-take, Happened, events_of, landmarks_of}
use Rattle.ss_store.proofs.Common.{has_open, with_closed, with_marked, with_opened, IsHistory, refuses, IsStream, Stream, stream_named}
use Rattle.ss_store.proofs.Common.{IsState-state, same_name-Decides, same_name-same, All-state, CanAppend-refuses, state-push, is_closed, mark_events}
use Rattle.std.specs.Prelude.{not}
use Rattle.std.specs.List.{after_last}
use Rattle.std.proofs.lemmas.List.Sums.{sum_by_push}
use Rattle.ss_catalog.specs.declared.event.Event.TheVariants.{Open, Close}
use Rattle.ss_landmarks.specs.Landmark as landmark
use Rattle.ss_summary.specs.Points.{Origin}
use Rattle.ss_model.specs.History.{Given, creates, given_after, given_to, is_for}
use Rattle.std.specs.Option.{option_map}
use Rattle.ss_model.specs.Outline.{outline_named, outline_of}
use Rattle.ss_model.specs.Refusals.{of_outline, stands}
use Rattle.ss_model.specs.State.{state}
use Rattle.ss_model.specs.Steps.{stepped_from}
use Rattle.ss_model.proofs.DropLemmas.{stream_named-dropped}
use Rattle.ss_model.proofs.EventLemmas.{after_last-push_no, after_last-push_yes, creates-no, given_to-created, given_to-event, given_to-other}
use Rattle.ss_model.proofs.FoundLemmas.{All-around, found, stream_named-at}
use Rattle.ss_model.proofs.HistoryLemmas.{GoesOn, GoesOn-push, by_pushes}
use Rattle.ss_model.proofs.ReadLemmas.{stream_named-stepped}
use Rattle.ss_model.proofs.StepLemmas.{CanCloseAt-refuses, CanOpenAt-refuses}
use Rattle.ss_model.proofs.StreamLemmas.{length-change_last, some-open}

-- ---- the events of a stream, with one more event

pub events_of-created : (history : List Happened) (name : List ℕ) (params : Params) (origin : Origin) →
    events_of (history ++ (Create name params, origin) ∷ []) name ≡ []
events_of-created history name params origin =
    rw (after_last-push_yes (λ (e : Happened). creates name e.0) history (Create name params, origin) (same_name-same name)) refl

pub events_of-event : (history : List Happened) (name : List ℕ) (event : Event) (origin : Origin) → is_for name event ≡ true → creates name event ≡ false →
    events_of (history ++ (event, origin) ∷ []) name ≡ events_of history name ++ (event, origin) ∷ []
events_of-event history name event origin own spared =
    rw (
      after_last-push_no (λ (e : Happened). creates name e.0) history (event, origin) spared,
      filter-append (λ (e : Happened). is_for name e.0) (after_last (λ (e : Happened). creates name e.0) history) ((event, origin) ∷ []),
      own,
    ) refl

pub events_of-other : (history : List Happened) (name : List ℕ) (event : Event) (origin : Origin) → is_for name event ≡ false →
    events_of (history ++ (event, origin) ∷ []) name ≡ events_of history name
events_of-other history name event origin fails =
    rw (
      after_last-push_no (λ (e : Happened). creates name e.0) history (event, origin) (creates-no name event fails),
      filter-append (λ (e : Happened). is_for name e.0) (after_last (λ (e : Happened). creates name e.0) history) ((event, origin) ∷ []),
      fails,
    ) (append-nil (events_of history name))

-- ---- landmarks, with one more event

-- one for a landmark that is closed
one_if_closed : Landmark → ℕ
one_if_closed l = cond (is_closed l) 1 0

-- a change that closes and opens none leaves as many closed
count-change_last : (change : Landmark → Landmark) → ((l : Landmark) → (change l).finish ≡ l.finish) → (ls : List Landmark) →
    count_by is_closed (change_last change ls) ≡ count_by is_closed ls
count-change_last change keeps [] = refl
count-change_last change keeps (l ∷ []) = rw (keeps l) refl
count-change_last change keeps (l ∷ next ∷ ls) =
    let rest = count-change_last change keeps (next ∷ ls) in
    let more = sum_by-cons (λ (x : Landmark). cond (is_closed x) 1 0) l (change_last change (next ∷ ls)) in
    let was = sum_by-cons (λ (x : Landmark). cond (is_closed x) 1 0) l (next ∷ ls) in
    omega (arith, rest, more, was)

-- the open landmark is the last, and one more is closed when it closes
count-closed : (from : ℕ) (ls : List Landmark) (t : ℕ) → FollowFrom from ls → has_open ls ≡ true →
    count_by is_closed (with_closed ls t) ≡ count_by is_closed ls + 1
count-closed from [] t follow begun = cc
count-closed from (l ∷ []) t follow begun = elim (cases-finish l.finish) [
  | inl none ↦ rw none refl
  | inr closed ↦ (let wrong : false ≡ true = rw closed.1 at begun in cc)
]
count-closed from (l ∷ next ∷ ls) t follow begun = elim (cases-finish l.finish) [
  | inl none ↦
      (let last : next ∷ ls ≡ [] = rw none at follow.2 in
      cc)
  | inr closed ↦
      (let later : FollowFrom (closed.0 + 1) (next ∷ ls) =
      rw closed.1 at follow.2 in
      let still : has_open (next ∷ ls) ≡ true = rw closed.1 at begun in
      let rest = count-closed (closed.0 + 1) (next ∷ ls) t later still in
      let more = sum_by-cons (λ (x : Landmark). cond (is_closed x) 1 0) l (change_last (closed_at t) (next ∷ ls)) in
      let was = sum_by-cons (λ (x : Landmark). cond (is_closed x) 1 0) l (next ∷ ls) in
      omega (arith, rest, more, was))
]

pub mark_events-opened : (ls : List Landmark) (t : ℕ) → mark_events (with_opened ls t) ≡ mark_events ls + 1
mark_events-opened ls t =
    let values = ap length (all_values-open ls t) in
    let closed = sum_by_push (λ (x : Landmark). cond (is_closed x) 1 0) ls (opened_at t) in
    omega (arith, values, closed, length_push ls (opened_at t))

pub mark_events-marked : (ls : List Landmark) (t : ℕ) (v : ℤ) → has_open ls ≡ true → mark_events (with_marked ls t v) ≡ mark_events ls + 1
mark_events-marked ls t v begun =
    let value : LandmarkValue = record { t = t; v = v } in
    let values = ap length (all_values-take ls value (some-open ls begun)) in
    let closed = count-change_last (landmark.with_value value) (λ l. refl) ls in
    omega (arith, values, closed, length_push (all_values ls) value, length-change_last (landmark.with_value value) ls)

pub mark_events-closed : (ls : List Landmark) (t : ℕ) → FollowFrom 0 ls → has_open ls ≡ true → mark_events (with_closed ls t) ≡ mark_events ls + 1
mark_events-closed ls t follow begun =
    let values = ap length (all_values-close ls t) in
    let closed = count-closed 0 ls t follow begun in
    omega (arith, values, closed, length-change_last (closed_at t) ls)

-- ---- the stream of a name that stands after a history

pub record IsNamed (history : List Happened) (name : List ℕ) : Type 0 where
  pub stream : Stream
  pub found : stream_named name (state history) ≡ Some stream
  pub is : IsStream stream
  pub name_is : name ≡ stream.name
  pub landmarks : stream.landmarks ≡ landmarks_of history name

pub named-state : (history : List Happened) (name : List ℕ) → IsHistory history → stands name (state history) ≡ true → IsNamed history name
named-state history name whole known =
    let was = IsState-state history whole in
    let at = found name (state history) was.names known in
    let named : name ≡ at.stream.name = (same_name-Decides name at.stream.name).0 at.named in
    let each : All (λ (s : Stream). s.landmarks ≡ landmarks_of history s.name) (state history) =
    All-state (λ (s : Stream). s.landmarks ≡ landmarks_of history s.name) history (λ c. refl) in
    let one = (All-around (λ (s : Stream). s.landmarks ≡ landmarks_of history s.name) at.before at.stream at.after
    (rw at.is at each)).one in
    record {
      stream = at.stream;
      found = ap (stream_named name) at.is ∙ stream_named-at name at.before at.stream at.after at.none_before at.named;
      is = (All-around IsStream at.before at.stream at.after (rw at.is at was.each)).one;
      name_is = named;
      landmarks = one ∙ ap (landmarks_of history) (sym named);
    }

-- a stream of another name than an event's is found as before it
pub named-other : (history : List Happened) (event : Event) (origin : Origin) → GoesOn history (event, origin) → (name : List ℕ) →
    is_for name event ≡ false → stream_named name (state (history ++ (event, origin) ∷ [])) ≡ stream_named name (state history)
named-other history event origin on name other =
    let apart : name ≢ event_name event = λ same. let wrong : true ≡ false = sym ((same_name-Decides name (event_name event)).1 same) ∙ other in cc in
    ap (stream_named name) (state-push history event origin on.accepted) ∙ stream_named-stepped origin (state history) event name apart

-- no stream of a name stands after its drop
pub named-dropped : (history : List Happened) (name : List ℕ) (origin : Origin) → GoesOn history (Drop name, origin) →
    stream_named name (state (history ++ (Drop name, origin) ∷ [])) ≡ None
unfolding stepped_from
named-dropped history name origin on =
    ap (stream_named name) (state-push history (Drop name) origin on.accepted) ∙ stream_named-dropped name (state history)

-- ---- how many events

-- how many events gave a stream what it has, but for its create
abbrev weight : Given → ℕ
weight given = length given.plain + mark_events given.landmarks

-- a history has as many events of a stream as gave it what it has
abbrev IsCountedFor : List Happened → List ℕ → Type 0
IsCountedFor history name = weight (given_to history name) ≡ length (events_of history name)

abbrev IsCounted : List Happened → Type 0
IsCounted history = IsHistory history → (name : List ℕ) → stands name (state history) ≡ true → IsCountedFor history name

weight-value : (origin : Origin) (given : Given) (name : List ℕ) (t : ℕ) (v : ℤ) → weight (given_after origin given (Value name t v)) ≡ weight given + 1
weight-value origin given name t v = elim (cases_Bool (has_open given.landmarks)) [
  | inl begun ↦ rw begun (let marks = mark_events-marked given.landmarks t v begun in omega (arith, marks))
  | inr none ↦ rw none (let plain = length_push given.plain (t, v, origin) in omega (arith, plain))
]

-- one more event of the stream
counted-event : (history : List Happened) (name : List ℕ) (event : Event) (origin : Origin) → is_for name event ≡ true → creates name event ≡ false →
    IsCountedFor history name →
    weight (given_after origin (given_to history name) event) ≡ weight (given_to history name) + 1 →
    IsCountedFor (history ++ (event, origin) ∷ []) name
counted-event history name event origin own spared before more =
    let given = ap weight (given_to-event history name event origin own spared) in
    let events = ap length (events_of-event history name event origin own spared) in
    omega (arith, given, events, before, more, length_push (events_of history name) (event, origin))

counted-close : (history : List Happened) (name : List ℕ) (t : ℕ) (origin : Origin) → IsHistory history →
    refuses (state history) (Close name t) ≡ None → weight (given_after origin (given_to history name) (Close name t)) ≡ weight (given_to history name) + 1
counted-close history name t origin whole accepted =
    let can = CanCloseAt-refuses (state history) name t accepted in
    let at = named-state history name whole can.known in
    let test : of_outline (outline_named name (state history)) (λ s. not (has_open s.landmarks)) ≡ not (has_open at.stream.landmarks) =
    ap (λ o. of_outline (option_map outline_of o) (λ s. not (has_open s.landmarks))) at.found in
    let begun : has_open at.stream.landmarks ≡ true = not-false (has_open at.stream.landmarks) (sym test ∙ can.begun) in
    let marks = mark_events-closed (landmarks_of history name) t (rw at.landmarks at at.is.landmarks)
    (rw at.landmarks at begun) in
    omega (arith, marks)

-- an event for the stream of a name
counted-own : (history : List Happened) (event : Event) (origin : Origin) → IsCounted history → GoesOn history (event, origin) → (name : List ℕ) →
    name ≡ event_name event → stands name (state (history ++ (event, origin) ∷ [])) ≡ true →
    IsCountedFor (history ++ (event, origin) ∷ []) name
counted-own history (Create other params) origin before on name is known =
    rw is (ap weight (given_to-created history other params origin (same_name-same other)) ∙ sym (ap length (events_of-created history other params origin)))
counted-own history (Value other t v) origin before on name is known =
    let can = CanAppend-refuses (state history) other t v on.accepted in
    rw is (counted-event history other (Value other t v) origin (same_name-same other) refl (before on.before other can.known)
    (weight-value origin (given_to history other) other t v))
counted-own history (Open other t) origin before on name is known =
    let can = CanOpenAt-refuses (state history) other t on.accepted in
    let marks = mark_events-opened (landmarks_of history other) t in
    rw is (counted-event history other (Open other t) origin (same_name-same other) refl (before on.before other can.known) (omega (arith, marks)))
counted-own history (Close other t) origin before on name is known =
    let can = CanCloseAt-refuses (state history) other t on.accepted in
    rw is (counted-event history other (Close other t) origin (same_name-same other) refl (before on.before other can.known)
    (counted-close history other t origin on.before on.accepted))
counted-own history (Drop other) origin before on name is known =
    let gone : stands other (state (history ++ (Drop other, origin) ∷ [])) ≡ false = ap is_some (named-dropped history other origin on) in
    let wrong : true ≡ false = sym known ∙ ap (λ n. stands n (state (history ++ (Drop other, origin) ∷ []))) is ∙ gone in
    cc

-- an event for another stream
counted-other : (history : List Happened) (event : Event) (origin : Origin) → IsCounted history → GoesOn history (event, origin) → (name : List ℕ) →
    is_for name event ≡ false → stands name (state (history ++ (event, origin) ∷ [])) ≡ true →
    IsCountedFor (history ++ (event, origin) ∷ []) name
counted-other history event origin before on name other known =
    let same = ap is_some (named-other history event origin on name other) in
    ap weight (given_to-other history name event origin other) ∙ before on.before name (sym same ∙ known)
    ∙ ap length (sym (events_of-other history name event origin other))

counted-push : (history : List Happened) (e : Happened) → IsCounted history → IsCounted (history ++ e ∷ [])
counted-push history e before whole name known =
    let on = GoesOn-push history e whole in
    elim (cases_Bool (is_for name e.0)) [
      | inl own ↦ counted-own history e.0 e.1 before on name ((same_name-Decides name (event_name e.0)).0 own) known
      | inr other ↦ counted-other history e.0 e.1 before on name other known
    ]

pub counted-history : (history : List Happened) → IsCounted history
unfolding state
counted-history history = by_pushes IsCounted counted-push [] history (λ whole name known. let wrong : false ≡ true = known in cc)
