-- The values of a stream of a history that lie outside landmarks stand at rising times, and no landmark covers any of them.
use Rattle.ss_model.proofs.Common.{◌≡◌, ℕ, ◌+◌, ◌<◌, ◌≤◌, Bool, true, false, not, ◌&&◌, List, [], ◌∷◌, ◌++◌, map, refl, ap, sym, ◌∙◌, subst, arith, Some, None}
use Rattle.ss_model.proofs.Common.{length, inl, inr, All, ◌==◌, option_map_or, cases_Bool, nat_tests, All-head, All-tail, event_name, same_name, Event, Create}
use Rattle.ss_model.proofs.Common.{Value, Open, Close, Drop, is_free, Landmark, open_landmark, AreLandmarks, Point, Origin, Given, given_after, given_to}
use Rattle.ss_model.proofs.Common.{is_for, landmarks_of, values_of, Happened, has_open, later, latest_of, with_closed, with_marked, with_opened, IsHistory}
use Rattle.ss_model.proofs.Common.{is_before, is_early, is_opening, is_past, refuses, IsStream, rule_of, Created, Stream, standing, stream_after, Outline}
use Rattle.ss_model.proofs.Common.{of_outline, option_map, outline_of, stream_named, last_time, RiseAtFree, time_of_last}
use Rattle.std.proofs.Common.{ℤ, Option, is_some}
use Rattle.ss_summary.specs.Summaries as summaries
use Rattle.ss_model.specs.State.{state}
use Rattle.ss_model.proofs.EventLemmas.{given_to-created, given_to-event, given_to-other}
use Rattle.ss_model.proofs.HistoryLemmas.{by_pushes, GoesOn-push, IsState-state}
use Rattle.ss_model.proofs.MarkLemmas.{ends-latest, free-later, is_free-closed, is_free-marked, is_free-opened, none-latest}
use Rattle.ss_model.proofs.NameLemmas.{same_name-Decides, same_name-same}
use Rattle.ss_model.proofs.StandLemmas.{later-is_past}
use Rattle.ss_model.proofs.StepLemmas.{CanAppend-refuses, CanCloseAt-refuses, CanOpenAt-refuses}
use Rattle.ss_model.proofs.Stretches.{newest_time-windows}
use Rattle.ss_model.proofs.StreamLemmas.{none-is_some}

-- ---- values at rising times

last_time-after : (free : ℕ → Bool) (q : Point) (qs : List Point) → RiseAtFree free (q.0 + 1) qs → q.0 ≤ summaries.time_at_end q.0 qs
last_time-after free q [] rising = omega arith
last_time-after free q (r ∷ rs) rising = omega (arith, rising.0, last_time-after free r rs rising.2)

-- one more value at a free time, later than the last
RiseAtFree_push : (free : ℕ → Bool) (start : ℕ) (ps : List Point) (x : Point) → RiseAtFree free start ps → start ≤ x.0 → free x.0 ≡ true
    → ((old : ℕ) → time_of_last ps ≡ Some old → old < x.0) → RiseAtFree free start (ps ++ x ∷ [])
RiseAtFree_push free start [] x rising late is later = (late, is, tt)
RiseAtFree_push free start (p ∷ []) x rising late is later = let next = later p.0 refl in (rising.0, rising.1, (omega arith, is, tt))
RiseAtFree_push free start (p ∷ q ∷ qs) x rising late is later =
    let end = later (summaries.time_at_end q.0 qs) refl in
    let after = last_time-after free q qs rising.2.2 in
    (rising.0, rising.1, RiseAtFree_push free (p.0 + 1) (q ∷ qs) x rising.2 (omega (arith, rising.2.0)) is later)

-- the times up to the last value's are free as they were
RiseAtFree-same : (free other : ℕ → Bool) (start : ℕ) (ps : List Point) → RiseAtFree free start ps
    → ((last u : ℕ) → time_of_last ps ≡ Some last → u ≤ last → other u ≡ free u) → RiseAtFree other start ps
RiseAtFree-same free other start [] rising same = tt
RiseAtFree-same free other start (p ∷ []) rising same = (rising.0, same p.0 p.0 refl (omega arith) ∙ rising.1, tt)
RiseAtFree-same free other start (p ∷ q ∷ qs) rising same =
    let after = last_time-after free q qs rising.2.2 in
    let early : p.0 ≤ summaries.time_at_end q.0 qs = omega (arith, rising.2.0) in
    (rising.0, same (summaries.time_at_end q.0 qs) p.0 refl early ∙ rising.1, RiseAtFree-same free other (p.0 + 1) (q ∷ qs) rising.2 same)

-- ---- the last time of a stream

-- what isn't past the later of two times isn't past the first
first-is_past : (o other : Option ℕ) (t : ℕ) → is_past (later o other) t ≡ false → (old : ℕ) → o ≡ Some old → old < t
first-is_past None other t late old is = cc
first-is_past (Some a) None t late old is = let same : a ≡ old = cc in grind (arith, nat_tests)
first-is_past (Some a) (Some b) t late old is = let same : a ≡ old = cc in grind (arith, nat_tests)

first-is_before : (o other : Option ℕ) (t : ℕ) → is_before (later o other) t ≡ false → (old : ℕ) → o ≡ Some old → old ≤ t
first-is_before None other t late old is = cc
first-is_before (Some a) None t late old is = let same : a ≡ old = cc in grind (arith, nat_tests)
first-is_before (Some a) (Some b) t late old is = let same : a ≡ old = cc in grind (arith, nat_tests)

-- a time later than all others is free, where no landmark is open
free-next : (last : Option ℕ) (o : Option ℕ) (ls : List Landmark) (t : ℕ) → later o (latest_of ls) ≡ last → has_open ls ≡ false
    → is_past last t ≡ false → is_free ls t ≡ true
free-next None o ls t is closed late = rw (none-latest o ls is) refl
free-next (Some last) o ls t is closed late =
    free-later ls last t (ends-latest o ls last is) (none-is_some (open_landmark ls) closed) (later-is_past (Some last) t late last refl)

-- a value isn't the first of a landmark where none is open
is_opening-closed : (o : Option Landmark) (t : ℕ) → is_some o ≡ false → option_map_or (λ (l : Landmark). l.start == t && length l.values == 0) o false ≡ false
is_opening-closed None t closed = refl
is_opening-closed (Some l) t closed = cc

late-first : (past first : Bool) → (past && not first) ≡ false → first ≡ false → past ≡ false
late-first past true timely closed = cc
late-first true false timely closed = timely
late-first false false timely closed = refl

-- ---- what a stream was given, with one more event

-- its values outside landmarks stand at rising times that none of its landmarks covers
abbrev LieFree : Given → Type 0
LieFree given = RiseAtFree (is_free given.landmarks) 0 given.plain

-- its last time, where it has one
abbrev latest_given : Given → Option ℕ
latest_given given = later (time_of_last given.plain) (latest_of given.landmarks)

LieFree-value : (origin : Origin) (given : Given) (name : List ℕ) (t : ℕ) (v : ℤ)
    → (is_past (latest_given given) t && not (is_opening given.landmarks t)) ≡ false
    → LieFree given → LieFree (given_after origin given (Value name t v))
LieFree-value origin given name t v timely before = elim (cases_Bool (has_open given.landmarks)) [
  | inl begun ↦ rw begun (RiseAtFree-same (is_free given.landmarks) (is_free (with_marked given.landmarks t v)) 0 given.plain before
      (λ last u end within. is_free-marked given.landmarks t v u))
  | inr closed ↦
      (let first : is_opening given.landmarks t ≡ false = is_opening-closed (open_landmark given.landmarks) t closed in
      let late = late-first (is_past (latest_given given) t) (is_opening given.landmarks t) timely first in
      rw closed (RiseAtFree_push (is_free given.landmarks) 0 given.plain (t, v, origin) before (omega arith)
      (free-next (latest_given given) (time_of_last given.plain) given.landmarks t refl closed late)
      (first-is_past (time_of_last given.plain) (latest_of given.landmarks) t late)))
]

LieFree-open : (origin : Origin) (given : Given) (name : List ℕ) (t : ℕ) → is_past (latest_given given) t ≡ false
    → LieFree given → LieFree (given_after origin given (Open name t))
LieFree-open origin given name t late before =
    RiseAtFree-same (is_free given.landmarks) (is_free (with_opened given.landmarks t)) 0 given.plain before
    (λ last u end within.
    let behind = first-is_past (time_of_last given.plain) (latest_of given.landmarks) t late last end in
    is_free-opened given.landmarks t u (omega arith))

LieFree-close : (origin : Origin) (given : Given) (name : List ℕ) (t : ℕ) → AreLandmarks given.landmarks → has_open given.landmarks ≡ true
    → is_before (latest_given given) t ≡ false → LieFree given → LieFree (given_after origin given (Close name t))
LieFree-close origin given name t order begun late before =
    RiseAtFree-same (is_free given.landmarks) (is_free (with_closed given.landmarks t)) 0 given.plain before
    (λ last u end within.
    let behind = first-is_before (time_of_last given.plain) (latest_of given.landmarks) t late last end in
    is_free-closed given.landmarks t u order begun (omega arith))

-- ---- a stream that stands as a history leaves it

pub record IsNamed (history : List Happened) (name : List ℕ) (s : Stream) : Type 0 where
  pub created : Created
  pub is : s ≡ stream_after history created
  pub named : created.name ≡ name

pub named-after : (history : List Happened) (name : List ℕ) (cs : List Created) (s : Stream)
    → stream_named name (map (stream_after history) cs) ≡ Some s → IsNamed history name s
named-after history name [] s found = cc
named-after history name (c ∷ cs) s found = elim (cases_Bool (same_name name c.name)) [
  | inl same ↦
      (let here : Some (stream_after history c) ≡ Some s = rw same at found in
      record { created = c; is = cc; named = sym ((same_name-Decides name c.name).0 same) })
  | inr other ↦ (let later : stream_named name (map (stream_after history) cs) ≡ Some s = rw other at found in named-after history name cs s later)
]

-- its landmarks and its last time are those of what the history gave it
landmarks-named : (history : List Happened) (name : List ℕ) (s : Stream) → IsNamed history name s → s.landmarks ≡ landmarks_of history name
landmarks-named history name s of = ap (λ (u : Stream). u.landmarks) of.is ∙ ap (landmarks_of history) of.named

last_time-named : (history : List Happened) (name : List ℕ) (s : Stream) → IsNamed history name s → last_time s ≡ latest_given (given_to history name)
last_time-named history name s of =
    let values = values_of history of.created.name in
    ap last_time of.is
    ∙ ap (λ o. later o (latest_of (landmarks_of history of.created.name))) (newest_time-windows (rule_of of.created.params) values)
    ∙ ap (λ n. latest_given (given_to history n)) of.named

-- what holds of each stream holds of one that is named
pub All-named : (P : Stream → Type 0) (name : List ℕ) (streams : List Stream) (s : Stream) → All P streams → stream_named name streams ≡ Some s → P s
All-named P name [] s all found = cc
All-named P name (u ∷ us) s all found = elim (cases_Bool (same_name name u.name)) [
  | inl same ↦ (let here : Some u ≡ Some s = rw same at found in let here : u ≡ s = cc in subst P here (All-head P u us all))
  | inr other ↦ (let later : stream_named name us ≡ Some s = rw other at found in All-named P name us s (All-tail P u us all) later)
]

-- the stream of a name that stands, and what a test of it says
some-known : {X : Type 0} (o : Option X) → is_some o ≡ true → (x : X) × (o ≡ Some x)
some-known None known = cc
some-known (Some x) known = (x, refl)

passed : (o : Option Stream) (test : Outline → Bool) (s : Stream) → o ≡ Some s → of_outline (option_map outline_of o) test ≡ false → test (outline_of s) ≡ false
passed o test s found none = ap (λ p. of_outline (option_map outline_of p) test) (sym found) ∙ none

not-false : (b : Bool) → not b ≡ false → b ≡ true
not-false true is = refl
not-false false is = cc

-- ---- a history with one more event

module _ (history : List Happened) (name : List ℕ) (origin : Origin) (t : ℕ) where
  LieFree-valued : (v : ℤ) → refuses (state history) (Value name t v) ≡ None → LieFree (given_to history name)
      → LieFree (given_after origin (given_to history name) (Value name t v))
  unfolding state
  LieFree-valued v accepted before =
      let can = CanAppend-refuses (state history) name t v accepted in
      let s = some-known (stream_named name (state history)) can.known in
      let of = named-after history name (standing history) s.0 s.1 in
      let timely : (is_past (latest_given (given_to history name)) t && not (is_opening (landmarks_of history name) t)) ≡ false =
      ap (λ o. is_past o t && not (is_opening (landmarks_of history name) t)) (sym (last_time-named history name s.0 of))
      ∙ ap (λ ls. is_past (last_time s.0) t && not (is_opening ls t)) (sym (landmarks-named history name s.0 of))
      ∙ passed (stream_named name (state history)) (λ u. is_early u t) s.0 s.1 can.later in
      LieFree-value origin (given_to history name) name t v timely before

  LieFree-opened : refuses (state history) (Open name t) ≡ None → LieFree (given_to history name)
      → LieFree (given_after origin (given_to history name) (Open name t))
  unfolding state
  LieFree-opened accepted before =
      let can = CanOpenAt-refuses (state history) name t accepted in
      let s = some-known (stream_named name (state history)) can.known in
      let of = named-after history name (standing history) s.0 s.1 in
      LieFree-open origin (given_to history name) name t
      (ap (λ o. is_past o t) (sym (last_time-named history name s.0 of))
      ∙ passed (stream_named name (state history)) (λ u. is_past u.last_time t) s.0 s.1 can.later)
      before

  LieFree-closed : IsHistory history → refuses (state history) (Close name t) ≡ None → LieFree (given_to history name)
      → LieFree (given_after origin (given_to history name) (Close name t))
  unfolding state
  LieFree-closed whole accepted before =
      let can = CanCloseAt-refuses (state history) name t accepted in
      let s = some-known (stream_named name (state history)) can.known in
      let of = named-after history name (standing history) s.0 s.1 in
      let sound = All-named IsStream name (state history) s.0 (IsState-state history whole).each s.1 in
      let landmarks = landmarks-named history name s.0 of in
      LieFree-close origin (given_to history name) name t
      (subst AreLandmarks landmarks sound.landmarks)
      (ap has_open (sym landmarks)
      ∙ not-false (has_open s.0.landmarks) (passed (stream_named name (state history)) (λ u. not (has_open u.landmarks)) s.0 s.1 can.begun))
      (ap (λ o. is_before o t) (sym (last_time-named history name s.0 of))
      ∙ passed (stream_named name (state history)) (λ u. is_before u.last_time t) s.0 s.1 can.later)
      before

LieFree-for : (history : List Happened) (name : List ℕ) (origin : Origin) (event : Event) → IsHistory history → refuses (state history) event ≡ None
    → name ≡ event_name event → LieFree (given_to history name) → LieFree (given_to (history ++ (event, origin) ∷ []) name)
LieFree-for history name origin (Create other params) whole accepted is before = rw (is, given_to-created history other params origin (same_name-same other)) tt
LieFree-for history name origin (Value other t v) whole accepted is before =
    let here = subst (λ n. refuses (state history) (Value n t v) ≡ None) (sym is) accepted in
    subst LieFree (sym (given_to-event history name (Value other t v) origin ((same_name-Decides name other).1 is) refl))
    (LieFree-valued history name origin t v here before)
LieFree-for history name origin (Open other t) whole accepted is before =
    let here = subst (λ n. refuses (state history) (Open n t) ≡ None) (sym is) accepted in
    subst LieFree (sym (given_to-event history name (Open other t) origin ((same_name-Decides name other).1 is) refl))
    (LieFree-opened history name origin t here before)
LieFree-for history name origin (Close other t) whole accepted is before =
    let here = subst (λ n. refuses (state history) (Close n t) ≡ None) (sym is) accepted in
    subst LieFree (sym (given_to-event history name (Close other t) origin ((same_name-Decides name other).1 is) refl))
    (LieFree-closed history name origin t whole here before)
LieFree-for history name origin (Drop other) whole accepted is before =
    subst LieFree (sym (given_to-event history name (Drop other) origin ((same_name-Decides name other).1 is) refl)) before

LieFree-event : (history : List Happened) (name : List ℕ) (origin : Origin) (event : Event) → IsHistory history → refuses (state history) event ≡ None
    → LieFree (given_to history name) → LieFree (given_to (history ++ (event, origin) ∷ []) name)
LieFree-event history name origin event whole accepted before = elim (cases_Bool (is_for name event)) [
  | inl same ↦ LieFree-for history name origin event whole accepted ((same_name-Decides name (event_name event)).0 same) before
  | inr other ↦ rw (given_to-other history name event origin other) before
]

pub values-rise : (history : List Happened) (name : List ℕ) → IsHistory history
    → RiseAtFree (is_free (landmarks_of history name)) 0 (values_of history name)
values-rise history name =
    by_pushes (λ us. IsHistory us → LieFree (given_to us name))
    (λ us event before whole.
    let on = GoesOn-push us event whole in
    LieFree-event us name event.1 event.0 on.before on.accepted (before on.before))
    [] history (λ none. tt)
