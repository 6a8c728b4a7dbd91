-- The state of a history with one more event.
use Rattle.ss_model.proofs.Common.{◌≡◌, ℕ, Bool, not, true, false, List, [], ◌∷◌, ◌++◌, map, refl, ap, sym, ◌∙◌, arith, None, Some, inl, inr, if◌then◌else◌}
use Rattle.ss_model.proofs.Common.{cases_Bool, cond_both, map-append, fold-append, common_steps, event_name, same_name, Event, Create, Value, Open, Close, Drop}
use Rattle.ss_model.proofs.Common.{Params, Refusal, has_target, Point, Origin, Given, creates, given_after, given_to, Happened, has_open, with_closed}
use Rattle.ss_model.proofs.Common.{with_opened, rule_of, Created, Stream, next_number, numbers_of, live, standing_after, standing, stream_after, stream_named}
use Rattle.ss_model.proofs.Common.{stands, has_all_streams, has_all_records, is_before, is_early, has_most_values, is_past, first_that_applies, of_outline}
use Rattle.ss_model.proofs.Common.{outline_named, outline_of, change_named, with_taken, with_plain_value, without_named, windows, option_map}
use Rattle.std.proofs.Common.{ℤ}
use Rattle.std.specs.Prelude.{Option, filter, is_some}
use Rattle.ss_catalog.specs.declared.refusal.Refusal.TheVariants as refusal
use Rattle.ss_model.specs.State.{state}
use Rattle.ss_model.specs.Refusals.{refuses}
use Rattle.ss_model.specs.Steps.{stepped_from}
use Rattle.ss_model.proofs.EventLemmas.{given_to-created, given_to-event, given_to-other}
use Rattle.ss_model.proofs.NameLemmas.{same_name-same, same_name-swap}
use Rattle.ss_model.proofs.Incremental.{windows_push}
use Rattle.ss_model.proofs.Stretches.{taken-windows}

pub standing-push : (history : List Happened) (event : Event) (origin : Origin) →
    standing (history ++ (event, origin) ∷ []) ≡ standing_after (standing history) event
standing-push history event origin = fold-append (λ stand (e : Happened). standing_after stand e.0) [] history ((event, origin) ∷ [])

pub map-map : {X Y Z : Type 0} (f : Y → Z) (g : X → Y) (xs : List X) → map f (map g xs) ≡ map (λ x. f (g x)) xs
map-map f g [] = refl
map-map f g (x ∷ xs) = ap (λ ys. f (g x) ∷ ys) (map-map f g xs)

-- a filter of what a function makes
pub filter-map : {X Y : Type 0} (p : Y → Bool) (f : X → Y) (xs : List X) → filter p (map f xs) ≡ map f (filter (λ x. p (f x)) xs)
filter-map p f [] = refl
filter-map p f (x ∷ xs) = elim (cases_Bool (p (f x))) [
  | inl passes ↦ rw (passes, filter-map p f xs) refl
  | inr fails ↦ rw (fails, filter-map p f xs) refl
]

-- two functions that agree everywhere make the same list
pub map-same : {X Y : Type 0} (f g : X → Y) (xs : List X) → ((x : X) → f x ≡ g x) → map f xs ≡ map g xs
map-same f g [] same = refl
map-same f g (x ∷ xs) same = rw (same x, map-same f g xs same) refl

-- a change of the stream of a name
abbrev pub changed : List ℕ → (Stream → Stream) → Stream → Stream
changed name change s = if same_name name s.name then change s else s

-- what an event does to the stream that it names, where it creates none and drops none
abbrev pub change_by : Origin → Event → Stream → Stream
change_by origin (Create name params) s = s
change_by origin (Value name t v) s = with_taken s (t, v, origin)
change_by origin (Open name t) s = record s { landmarks = with_opened s.landmarks t }
change_by origin (Close name t) s = record s { landmarks = with_closed s.landmarks t }
change_by origin (Drop name) s = s

-- a value changes the stream that it names
abbrev pub valued : List ℕ → Point → Stream → Stream
valued name p s = changed name (λ u. with_taken u p) s

-- a stream that was given something, with the windows of the values outside landmarks
abbrev stream_given : Created → Given → Stream
stream_given c given = record {
  number = c.number;
  name = c.name;
  params = c.params;
  windows = windows (rule_of c.params) given.plain;
  landmarks = given.landmarks;
}

stream_given-plain : (c : Created) (given : Given) (p : Point) →
    stream_given c (record given { plain = given.plain ++ p ∷ [] }) ≡ with_plain_value (stream_given c given) p
stream_given-plain c given p =
    let rule = rule_of c.params in rw (windows_push rule given.plain p, taken-windows rule given.plain) refl

stream_given-value : (c : Created) (origin : Origin) (given : Given) (name : List ℕ) (t : ℕ) (v : ℤ) (begun : Bool) → has_open given.landmarks ≡ begun →
    stream_given c (given_after origin given (Value name t v)) ≡ with_taken (stream_given c given) (t, v, origin)
stream_given-value c origin given name t v true is = rw is refl
stream_given-value c origin given name t v false is = rw is (stream_given-plain c given (t, v, origin))

stream_given-after : (c : Created) (origin : Origin) (given : Given) (event : Event) →
    stream_given c (given_after origin given event) ≡ change_by origin event (stream_given c given)
stream_given-after c origin given (Create name params) = refl
stream_given-after c origin given (Value name t v) = stream_given-value c origin given name t v (has_open given.landmarks) refl
stream_given-after c origin given (Open name t) = refl
stream_given-after c origin given (Close name t) = refl
stream_given-after c origin given (Drop name) = refl

stream_after-event : (history : List Happened) (event : Event) (origin : Origin) (c : Created) → creates c.name event ≡ false →
    stream_after (history ++ (event, origin) ∷ []) c ≡ changed (event_name event) (change_by origin event) (stream_after history c)
stream_after-event history event origin c spared = elim (cases_Bool (same_name c.name (event_name event))) [
  | inl same ↦
      (let back : same_name (event_name event) c.name ≡ true = sym (same_name-swap c.name (event_name event)) ∙ same in
      rw back (ap (stream_given c) (given_to-event history c.name event origin same spared)
      ∙ stream_given-after c origin (given_to history c.name) event))
  | inr other ↦
      (let back : same_name (event_name event) c.name ≡ false = sym (same_name-swap c.name (event_name event)) ∙ other in
      rw back (ap (stream_given c) (given_to-other history c.name event origin other)))
]

-- an event that creates no stream changes the one that it names
state-changed : (history : List Happened) (event : Event) (origin : Origin) → standing_after (standing history) event ≡ standing history →
    ((name : List ℕ) → creates name event ≡ false) →
    state (history ++ (event, origin) ∷ []) ≡ change_named (event_name event) (change_by origin event) (state history)
unfolding state
state-changed history event origin stay spared =
    rw (standing-push history event origin, stay, map-map (changed (event_name event) (change_by origin event)) (stream_after history) (standing history))
    (map-same (stream_after (history ++ (event, origin) ∷ []))
    (λ c. changed (event_name event) (change_by origin event) (stream_after history c)) (standing history)
    (λ c. stream_after-event history event origin c (spared c.name)))

stream_after-other : (history : List Happened) (name : List ℕ) (params : Params) (origin : Origin) (c : Created) → same_name name c.name ≡ false →
    stream_after (history ++ (Create name params, origin) ∷ []) c ≡ stream_after history c
stream_after-other history name params origin c other =
    let apart : same_name c.name name ≡ false = sym (same_name-swap name c.name) ∙ other in
    ap (stream_given c) (given_to-other history c.name (Create name params) origin apart)

-- a create leaves streams of other names as they were
streams-create : (history : List Happened) (name : List ℕ) (params : Params) (origin : Origin) (cs : List Created) →
    stands name (map (stream_after history) cs) ≡ false →
    map (stream_after (history ++ (Create name params, origin) ∷ [])) cs ≡ map (stream_after history) cs
streams-create history name params origin [] none = refl
streams-create history name params origin (c ∷ cs) none = elim (cases_Bool (same_name name c.name)) [
  | inl same ↦ (let wrong : true ≡ false = rw same at none in cc)
  | inr other ↦
      (let later : stands name (map (stream_after history) cs) ≡ false = rw other at none in
      rw (stream_after-other history name params origin c other, streams-create history name params origin cs later) refl)
]

state-create : (history : List Happened) (name : List ℕ) (params : Params) (origin : Origin) → stands name (state history) ≡ false →
    state (history ++ (Create name params, origin) ∷ []) ≡ stepped_from origin (state history) (Create name params)
unfolding state stepped_from
state-create history name params origin none =
    let new : Created = record { number = next_number (map (λ s. s.number) (standing history)); name = name; params = params } in
    let made = ap (stream_given new) (given_to-created history name params origin (same_name-same name)) in
    rw (
      standing-push history (Create name params) origin,
      map-append (stream_after (history ++ (Create name params, origin) ∷ [])) (standing history) (new ∷ []),
      streams-create history name params origin (standing history) none,
      map-map (λ s. s.number) (stream_after history) (standing history),
    ) (ap (λ (x : Stream). map (stream_after history) (standing history) ++ x ∷ []) made)

-- a drop leaves of each stream what it was
stream_after-drop : (history : List Happened) (name : List ℕ) (origin : Origin) (c : Created) →
    stream_after (history ++ (Drop name, origin) ∷ []) c ≡ stream_after history c
stream_after-drop history name origin c =
    stream_after-event history (Drop name) origin c refl
    ∙ cond_both (same_name name c.name) (stream_after history c) (stream_after history c) (λ s. s ≡ stream_after history c) (λ same. refl) (λ other. refl)

state-drop : (history : List Happened) (name : List ℕ) (origin : Origin) → state (history ++ (Drop name, origin) ∷ []) ≡ without_named name (state history)
unfolding state
state-drop history name origin =
    rw (
      standing-push history (Drop name) origin,
      map-same (stream_after (history ++ (Drop name, origin) ∷ [])) (stream_after history) (filter (λ s. not (same_name name s.name)) (standing history))
          (stream_after-drop history name origin),
    ) (sym (filter-map (λ s. not (same_name name s.name)) (stream_after history) (standing history)))

-- the outline of the stream of a name is there where that stands
pub stands-outline : (o : Option Stream) → is_some (option_map outline_of o) ≡ is_some o
stands-outline None = refl
stands-outline (Some s) = refl

-- why an event wasn't refused
pub record CanCreate (streams : List Stream) (name : List ℕ) (params : Params) : Type 0 where
  pub target : has_target params ≡ true
  pub new : stands name streams ≡ false
  pub room : has_all_streams (numbers_of streams) ≡ false
  pub records : has_all_records (live streams) ≡ false

pub record CanAppend (streams : List Stream) (name : List ℕ) (t : ℕ) : Type 0 where
  pub known : stands name streams ≡ true
  pub later : of_outline (outline_named name streams) (λ s. is_early s t) ≡ false
  pub few : of_outline (outline_named name streams) has_most_values ≡ false
  pub records : has_all_records (live streams) ≡ false

pub record CanOpenAt (streams : List Stream) (name : List ℕ) (t : ℕ) : Type 0 where
  pub known : stands name streams ≡ true
  pub closed : of_outline (outline_named name streams) (λ s. has_open s.landmarks) ≡ false
  pub later : of_outline (outline_named name streams) (λ s. is_past s.last_time t) ≡ false
  pub records : has_all_records (live streams) ≡ false

pub record CanCloseAt (streams : List Stream) (name : List ℕ) (t : ℕ) : Type 0 where
  pub known : stands name streams ≡ true
  pub begun : of_outline (outline_named name streams) (λ s. not (has_open s.landmarks)) ≡ false
  pub later : of_outline (outline_named name streams) (λ s. is_before s.last_time t) ≡ false

-- the first test is passed where its value is true, and the others where theirs is false
none-applies : (a b c d : Bool) (p q r s : Refusal) → first_that_applies ((not a, p) ∷ (b, q) ∷ (c, r) ∷ (d, s) ∷ []) ≡ None →
    (a ≡ true) × (b ≡ false) × (c ≡ false) × (d ≡ false)
none-applies a b c d p q r s none = grind (arith, common_steps)

pub CanCreate-refuses : (streams : List Stream) (name : List ℕ) (params : Params) →
    refuses streams (Create name params) ≡ None → CanCreate streams name params
unfolding refuses
CanCreate-refuses streams name params none =
    let stream = outline_named name streams in
    let passed = none-applies (has_target params) (is_some stream) (has_all_streams (numbers_of streams)) (has_all_records (live streams)) _ _ _ _ none in
    record { target = passed.0; new = sym (stands-outline (stream_named name streams)) ∙ passed.1; room = passed.2; records = passed.3 }

pub CanAppend-refuses : (streams : List Stream) (name : List ℕ) (t : ℕ) (v : ℤ) →
    refuses streams (Value name t v) ≡ None → CanAppend streams name t
unfolding refuses
CanAppend-refuses streams name t v none =
    let stream = outline_named name streams in
    let passed = none-applies (is_some stream) (of_outline stream (λ s. is_early s t)) (of_outline stream has_most_values)
    (has_all_records (live streams)) _ _ _ _ none in
    record { known = sym (stands-outline (stream_named name streams)) ∙ passed.0; later = passed.1; few = passed.2; records = passed.3 }

pub CanOpenAt-refuses : (streams : List Stream) (name : List ℕ) (t : ℕ) → refuses streams (Open name t) ≡ None → CanOpenAt streams name t
unfolding refuses
CanOpenAt-refuses streams name t none =
    let stream = outline_named name streams in
    let passed = none-applies (is_some stream) (of_outline stream (λ s. has_open s.landmarks)) (of_outline stream (λ s. is_past s.last_time t))
    (has_all_records (live streams)) _ _ _ _ none in
    record { known = sym (stands-outline (stream_named name streams)) ∙ passed.0; closed = passed.1; later = passed.2; records = passed.3 }

none-applies_three : (a b c : Bool) (p q r : Refusal) → first_that_applies ((not a, p) ∷ (b, q) ∷ (c, r) ∷ []) ≡ None →
    (a ≡ true) × (b ≡ false) × (c ≡ false)
none-applies_three a b c p q r none = grind (arith, common_steps)

pub CanCloseAt-refuses : (streams : List Stream) (name : List ℕ) (t : ℕ) → refuses streams (Close name t) ≡ None → CanCloseAt streams name t
unfolding refuses
CanCloseAt-refuses streams name t none =
    let stream = outline_named name streams in
    let passed = none-applies_three (is_some stream) (of_outline stream (λ s. not (has_open s.landmarks)))
    (of_outline stream (λ s. is_before s.last_time t)) _ _ _ none in
    record { known = sym (stands-outline (stream_named name streams)) ∙ passed.0; begun = passed.1; later = passed.2 }

-- a drop is refused where no stream of the name stands, and nowhere else
pub stands-refuses : (streams : List Stream) (name : List ℕ) → refuses streams (Drop name) ≡ None → stands name streams ≡ true
unfolding refuses
stands-refuses streams name none = elim (cases_Bool (is_some (outline_named name streams))) [
  | inl known ↦ sym (stands-outline (stream_named name streams)) ∙ known
  | inr unknown ↦ (let wrong : Some refusal.Unknown ≡ None = rw unknown at none in cc)
]

pub state-push : (history : List Happened) (event : Event) (origin : Origin) → refuses (state history) event ≡ None →
    state (history ++ (event, origin) ∷ []) ≡ stepped_from origin (state history) event
unfolding stepped_from
state-push history (Create name params) origin none =
    let can = CanCreate-refuses (state history) name params none in
    state-create history name params origin can.new
state-push history (Value name t v) origin none = state-changed history (Value name t v) origin refl (λ n. refl)
state-push history (Open name t) origin none = state-changed history (Open name t) origin refl (λ n. refl)
state-push history (Close name t) origin none = state-changed history (Close name t) origin refl (λ n. refl)
state-push history (Drop name) origin none = state-drop history name origin
