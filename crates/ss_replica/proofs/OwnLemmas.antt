-- What a stream owns, with one more event, and beside the stream that stands.
use Rattle.std.proofs.Common.{◌≡◌, ◌∙◌, ℕ, ◌+◌, true, false, List, [], ◌∷◌, ◌++◌, length, map, refl, ap, sym, arith, subst, None, Some, inl, inr}
use Rattle.std.specs.Prelude.{Option}
use Rattle.std.proofs.lemmas.Bool.{cases_Bool, cond_both}
use Rattle.std.proofs.lemmas.List.{length-map, map-append}
use Rattle.std.proofs.lemmas.List.Sums.{fold-append}
use Rattle.ss_catalog.specs.Events.{event_name}
use Rattle.ss_catalog.specs.Names.{same_name}
use Rattle.ss_catalog.specs.declared.event.Event.{Event}
use Rattle.ss_catalog.specs.declared.event.Event.TheVariants.{Create, Value, Open, Close, Drop}
use Rattle.ss_catalog.specs.declared.params.Params.{Params}
use Rattle.ss_summary.specs.Points.{Origin}
use Rattle.ss_model.specs.History.{Happened, added, creates, events_of, is_for}
use Rattle.ss_model.specs.Marks.{has_open, with_closed, with_marked, with_opened}
use Rattle.ss_model.specs.Refusals.{IsHistory, stands}
use Rattle.ss_model.specs.State.{Stream, next_number, numbers_of, state, stream_named}
use Rattle.ss_model.specs.Steps.{change_named, stepped_from, with_plain_value, with_taken}
use Rattle.ss_model.proofs.FoundLemmas.{changed-found, found, stream_named-at}
use Rattle.ss_model.proofs.HistoryLemmas.{GoesOn, GoesOn-push, IsState-state, by_pushes}
use Rattle.ss_model.proofs.NameLemmas.{same_name-Decides, same_name-same}
use Rattle.ss_model.proofs.StepLemmas.{CanAppend-refuses, CanCloseAt-refuses, CanCreate-refuses, CanOpenAt-refuses, state-push}
use Rattle.ss_replica.specs.Fronts.{comes_last}
use Rattle.ss_replica.specs.Own.{counted, own, own_after}
use Rattle.ss_store.proofs.EventCounts.{events_of-created, events_of-event, events_of-other, named-dropped, named-other}

-- an event, as it counts
abbrev pub counts : Happened → Happened
counts e = counted e.1 e.0

pub own-push : (history : List Happened) (event : Event) (origin : Origin) (name : List ℕ) →
    own (history ++ (event, origin) ∷ []) name ≡ own_after name (own history name) origin event
own-push history event origin name = fold-append (λ owned (e : Happened). own_after name owned e.1 e.0) [] history ((event, origin) ∷ [])

-- an event for another stream
own_after-other : (name : List ℕ) (owned : List Happened) (origin : Origin) (event : Event) → is_for name event ≡ false →
    own_after name owned origin event ≡ owned
own_after-other name owned origin (Create other params) fails = rw fails refl
own_after-other name owned origin (Value other t v) fails = rw fails refl
own_after-other name owned origin (Open other t) fails = rw fails refl
own_after-other name owned origin (Close other t) fails = rw fails refl
own_after-other name owned origin (Drop other) fails = rw fails refl

pub own-other : (history : List Happened) (event : Event) (origin : Origin) (name : List ℕ) → is_for name event ≡ false →
    own (history ++ (event, origin) ∷ []) name ≡ own history name
own-other history event origin name fails = own-push history event origin name ∙ own_after-other name (own history name) origin event fails

-- an event of the stream that neither creates nor drops it comes last
own_after-last : (name : List ℕ) (owned : List Happened) (origin : Origin) (event : Event) → is_for name event ≡ true → comes_last event ≡ true →
    own_after name owned origin event ≡ owned ++ counted origin event ∷ []
own_after-last name owned origin (Create other params) for_it last = cc
own_after-last name owned origin (Value other t v) for_it last = rw for_it refl
own_after-last name owned origin (Open other t) for_it last = rw for_it refl
own_after-last name owned origin (Close other t) for_it last = rw for_it refl
own_after-last name owned origin (Drop other) for_it last = cc

pub own-last : (history : List Happened) (event : Event) (origin : Origin) (name : List ℕ) → is_for name event ≡ true → comes_last event ≡ true →
    own (history ++ (event, origin) ∷ []) name ≡ own history name ++ counted origin event ∷ []
own-last history event origin name for_it last =
    own-push history event origin name ∙ own_after-last name (own history name) origin event for_it last

pub own-created : (history : List Happened) (name : List ℕ) (params : Params) (origin : Origin) →
    own (history ++ (Create name params, origin) ∷ []) name ≡ added (Create name params) ∷ []
own-created history name params origin = own-push history (Create name params) origin name ∙ rw (same_name-same name) refl

pub own-dropped : (history : List Happened) (name : List ℕ) (origin : Origin) → own (history ++ (Drop name, origin) ∷ []) name ≡ []
own-dropped history name origin = own-push history (Drop name) origin name ∙ rw (same_name-same name) refl

-- ---- the stream of a name, with one more event

-- a stream that has just been created
pub named-created : (history : List Happened) (name : List ℕ) (params : Params) (origin : Origin) → GoesOn history (Create name params, origin) →
    stream_named name (state (history ++ (Create name params, origin) ∷ [])) ≡
    Some (record { number = next_number (numbers_of (state history)); name = name; params = params; windows = []; landmarks = [] })
unfolding stepped_from
named-created history name params origin on =
    let can = CanCreate-refuses (state history) name params on.accepted in
    let new : Stream = record { number = next_number (numbers_of (state history)); name = name; params = params; windows = []; landmarks = [] } in
    ap (stream_named name) (state-push history (Create name params) origin on.accepted)
    ∙ stream_named-at name (state history) new [] can.new (same_name-same name)

-- a change of the stream of a name that keeps its name and its parameters
pub record IsChanged (history : List Happened) (event : Event) (origin : Origin) (name : List ℕ) : Type 0 where
  pub was : Stream
  pub is : Stream
  pub found_was : stream_named name (state history) ≡ Some was
  pub found_is : stream_named name (state (history ++ (event, origin) ∷ [])) ≡ Some is
  pub params : is.params ≡ was.params

keeps-taken : (s : Stream) (t : ℕ) (v : _) (origin : Origin) → ((with_taken s (t, v, origin)).name ≡ s.name) × ((with_taken s (t, v, origin)).params ≡ s.params)
keeps-taken s t v origin = cond_both (has_open s.landmarks) (record s { landmarks = with_marked s.landmarks t v }) (with_plain_value s (t, v, origin))
    (λ (u : Stream). (u.name ≡ s.name) × (u.params ≡ s.params)) (λ begun. (refl, refl)) (λ none. (refl, refl))

changed-named : (history : List Happened) (event : Event) (origin : Origin) (name : List ℕ) (change : Stream → Stream) → IsHistory history →
    ((s : Stream) → ((change s).name ≡ s.name) × ((change s).params ≡ s.params)) → stands name (state history) ≡ true →
    state (history ++ (event, origin) ∷ []) ≡ change_named name change (state history) → IsChanged history event origin name
changed-named history event origin name change whole keeps known after =
    let at = found name (state history) (IsState-state history whole).names known in
    let still : same_name name (change at.stream).name ≡ true = ap (same_name name) (keeps at.stream).0 ∙ at.named in
    record {
      was = at.stream;
      is = change at.stream;
      found_was = ap (stream_named name) at.is ∙ stream_named-at name at.before at.stream at.after at.none_before at.named;
      found_is = ap (stream_named name) (after ∙ changed-found at change)
          ∙ stream_named-at name at.before (change at.stream) at.after at.none_before still;
      params = (keeps at.stream).1;
    }

pub named-changed : (history : List Happened) (event : Event) (origin : Origin) → comes_last event ≡ true → GoesOn history (event, origin) →
    IsChanged history event origin (event_name event)
unfolding stepped_from
named-changed history (Create name params) origin last on = cc
named-changed history (Value name t v) origin last on =
    let can = CanAppend-refuses (state history) name t v on.accepted in
    changed-named history (Value name t v) origin name (λ s. with_taken s (t, v, origin)) on.before (λ s. keeps-taken s t v origin) can.known
    (state-push history (Value name t v) origin on.accepted)
named-changed history (Open name t) origin last on =
    let can = CanOpenAt-refuses (state history) name t on.accepted in
    changed-named history (Open name t) origin name (λ s. record s { landmarks = with_opened s.landmarks t }) on.before (λ s. (refl, refl)) can.known
    (state-push history (Open name t) origin on.accepted)
named-changed history (Close name t) origin last on =
    let can = CanCloseAt-refuses (state history) name t on.accepted in
    changed-named history (Close name t) origin name (λ s. record s { landmarks = with_closed s.landmarks t }) on.before (λ s. (refl, refl)) can.known
    (state-push history (Close name t) origin on.accepted)
named-changed history (Drop name) origin last on = cc

-- ---- what a stream owns is its create and its events after that; a stream that doesn't stand owns nothing

abbrev pub OwnsAs : List Happened → List ℕ → Option Stream → Type 0
OwnsAs history name None = own history name ≡ []
OwnsAs history name (Some s) = own history name ≡ added (Create name s.params) ∷ map counts (events_of history name)

abbrev IsOwned : List Happened → Type 0
IsOwned history = IsHistory history → (name : List ℕ) → OwnsAs history name (stream_named name (state history))

creates-last : (name : List ℕ) (event : Event) → comes_last event ≡ true → creates name event ≡ false
creates-last name (Create other params) last = cc
creates-last name (Value other t v) last = refl
creates-last name (Open other t) last = refl
creates-last name (Close other t) last = refl
creates-last name (Drop other) last = cc

owned-last : (history : List Happened) (event : Event) (origin : Origin) → IsOwned history → GoesOn history (event, origin) → comes_last event ≡ true →
    OwnsAs (history ++ (event, origin) ∷ []) (event_name event) (stream_named (event_name event) (state (history ++ (event, origin) ∷ [])))
owned-last history event origin before on last =
    let name = event_name event in
    let at = named-changed history event origin last on in
    let was : own history name ≡ added (Create name at.was.params) ∷ map counts (events_of history name) =
    subst (OwnsAs history name) at.found_was (before on.before name) in
    let now : own (history ++ (event, origin) ∷ []) name ≡ added (Create name at.is.params) ∷ map counts (events_of (history ++ (event, origin) ∷ []) name) =
    own-last history event origin name (same_name-same name) last ∙ rw (
      was,
      events_of-event history name event origin (same_name-same name) (creates-last name event last),
      map-append counts (events_of history name) ((event, origin) ∷ []),
      at.params,
    ) refl in
    subst (OwnsAs (history ++ (event, origin) ∷ []) name) (sym at.found_is) now

owned-own : (history : List Happened) (event : Event) (origin : Origin) → IsOwned history → GoesOn history (event, origin) →
    OwnsAs (history ++ (event, origin) ∷ []) (event_name event) (stream_named (event_name event) (state (history ++ (event, origin) ∷ [])))
owned-own history (Create name params) origin before on =
    subst (OwnsAs (history ++ (Create name params, origin) ∷ []) name) (sym (named-created history name params origin on))
    (own-created history name params origin
    ∙ ap (λ (es : List Happened). added (Create name params) ∷ map counts es) (sym (events_of-created history name params origin)))
owned-own history (Value name t v) origin before on = owned-last history (Value name t v) origin before on refl
owned-own history (Open name t) origin before on = owned-last history (Open name t) origin before on refl
owned-own history (Close name t) origin before on = owned-last history (Close name t) origin before on refl
owned-own history (Drop name) origin before on =
    subst (OwnsAs (history ++ (Drop name, origin) ∷ []) name) (sym (named-dropped history name origin on)) (own-dropped history name origin)

-- what is owned stays, where the stream, what it owns and its events stay
owned-same : (was now : List Happened) (name : List ℕ) (o : Option Stream) → own now name ≡ own was name → events_of now name ≡ events_of was name →
    OwnsAs was name o → OwnsAs now name o
owned-same was now name None own events owned = own ∙ owned
owned-same was now name (Some s) own events owned = own ∙ owned ∙ ap (λ (es : List Happened). added (Create name s.params) ∷ map counts es) (sym events)

owned-push : (history : List Happened) (e : Happened) → IsOwned history → IsOwned (history ++ e ∷ [])
owned-push history e before whole name =
    let on = GoesOn-push history e whole in
    elim (cases_Bool (is_for name e.0)) [
      | inl for_it ↦
          subst (λ n. OwnsAs (history ++ e ∷ []) n (stream_named n (state (history ++ e ∷ [])))) (sym ((same_name-Decides name (event_name e.0)).0 for_it))
          (owned-own history e.0 e.1 before on)
      | inr other ↦
          subst (OwnsAs (history ++ e ∷ []) name) (sym (named-other history e.0 e.1 on name other))
          (owned-same history (history ++ e ∷ []) name (stream_named name (state history)) (own-other history e.0 e.1 name other)
          (events_of-other history name e.0 e.1 other) (before on.before name))
    ]

pub owned-history : (history : List Happened) → IsOwned history
unfolding state
owned-history history = by_pushes IsOwned owned-push [] history (λ whole name. refl)

pub own-none : (history : List Happened) (name : List ℕ) → IsHistory history → stream_named name (state history) ≡ None → own history name ≡ []
own-none history name whole none = subst (OwnsAs history name) none (owned-history history whole name)

pub own-some : (history : List Happened) (name : List ℕ) (s : Stream) → IsHistory history → stream_named name (state history) ≡ Some s →
    own history name ≡ added (Create name s.params) ∷ map counts (events_of history name)
own-some history name s whole some = subst (OwnsAs history name) some (owned-history history whole name)

-- how many events a stream owns
pub length-own : (history : List Happened) (name : List ℕ) (s : Stream) → IsHistory history → stream_named name (state history) ≡ Some s →
    length (own history name) ≡ 1 + length (events_of history name)
length-own history name s whole some =
    let all = ap length (own-some history name s whole some) in
    omega (arith, all, length-map (events_of history name) counts)
