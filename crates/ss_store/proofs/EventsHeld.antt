-- How many events a stream has taken, by what is held of it.
use Rattle.ss_store.proofs.Common.{◌≡◌, ◌∙◌, ℕ, zero, suc, ◌+◌, ◌-◌, ◌*◌, ◌≤◌, Bool, true, List, [], ◌∷◌, length, refl, ap, arith, cond, inl, inr, Some, All}
use Rattle.ss_store.proofs.Common.{is_some, slice_get, ◌==◌, count_by, cases_Bool, All-get_or, sum_by-cons, get_or_from_slice_get, none-some, same_Some}
use Rattle.ss_store.proofs.Common.{slice_get_within, same_name, Landmark, open_landmark, FollowFrom, cases-finish, MOST_VALUES, Happened, events_of}
use Rattle.ss_store.proofs.Common.{landmarks_of, values_of, IsHistory, rule_of, Stream, state, values_in, IsState-state, same_name-same, All-state, AllAgree}
use Rattle.ss_store.proofs.Common.{AreWhole, TileFrom, entries_of, StreamParts, events_held, is_closed, mark_events, values_held, part_numbered}
use Rattle.std.proofs.Common.{◌^◌, min}
use Rattle.std.specs.Prelude.{Option}
use Rattle.ss_landmarks.specs.declared.landmarks.TheConstants.{MOST_LANDMARK_SLOTS}
use Rattle.ss_model.specs.Refusals.{stands}
use Rattle.ss_model.proofs.Stretches.{taken-windows}
use Rattle.ss_model.proofs.NewestLemmas.{All-found}
use Rattle.ss_stream.proofs.HeldCounts.{values_held-Agrees}
use Rattle.ss_stream.proofs.KeyedWindows.{held-few}
use Rattle.ss_store.proofs.EventCounts.{counted-history}
use Rattle.ss_store.proofs.Named.{AreFound-numbered}

-- one, if a landmark is open
abbrev pub one_if_open : Bool → ℕ
one_if_open begun = cond begun 1 0

-- each landmark is closed but the one that is open
pub count-open : (from : ℕ) (ls : List Landmark) → FollowFrom from ls →
    count_by is_closed ls + one_if_open (is_some (open_landmark ls)) ≡ length ls
count-open from [] follow = refl
count-open from (l ∷ ls) follow = elim (cases-finish l.finish) [
  | inl none ↦
      (let last : ls ≡ [] = rw none at follow.2 in
      rw (last, none) refl)
  | inr closed ↦
      (let later : FollowFrom (closed.0 + 1) ls =
      rw closed.1 at follow.2 in
      let rest = count-open (closed.0 + 1) ls later in
      let more : count_by is_closed (l ∷ ls) ≡ 1 + count_by is_closed ls =
      sum_by-cons (λ (x : Landmark). cond (is_closed x) 1 0) l ls ∙ ap (λ (f : Option ℕ). cond (is_some f) 1 0 + count_by is_closed ls) closed.1 in
      let found : open_landmark (l ∷ ls) ≡ open_landmark ls = rw closed.1 refl in
      let same = ap (λ (o : Option Landmark). one_if_open (is_some o)) found in
      omega (arith, rest, more, same))
]

-- ---- a stream that stands at a place

-- what holds of each holds of the one at a place
All-at : {X : Type 0} (P : X → Type 0) (xs : List X) (place : ℕ) (x : X) → All P xs → slice_get xs place ≡ Some x → P x
All-at P xs place x all at = rw (get_or_from_slice_get xs place x x at) at (All-get_or P xs place x (slice_get_within xs place x at) all)

stands-at : (streams : List Stream) (place : ℕ) (s : Stream) → slice_get streams place ≡ Some s → stands s.name streams ≡ true
stands-at [] place s at = absurd (none-some s at)
stands-at (u ∷ us) zero s at =
    let same : same_name s.name u.name ≡ true = ap (λ (v : Stream). same_name s.name v.name) (same_Some u s at) ∙ same_name-same s.name in
    rw same refl
stands-at (u ∷ us) (suc place) s at = elim (cases_Bool (same_name s.name u.name)) [
  | inl same ↦ rw same refl
  | inr other ↦ rw other (stands-at us place s at)
]

counted-stream : (history : List Happened) (place : ℕ) (s : Stream) → IsHistory history → slice_get (state history) place ≡ Some s →
    values_in s + mark_events s.landmarks ≡ length (events_of history s.name)
counted-stream history place s whole at =
    let count : values_in s ≡ length (values_of history s.name) =
    All-at (λ (u : Stream). values_in u ≡ length (values_of history u.name)) (state history) place s
    (All-state (λ (u : Stream). values_in u ≡ length (values_of history u.name)) history
    (λ c. taken-windows (rule_of c.params) (values_of history c.name))) at in
    let landmarks : s.landmarks ≡ landmarks_of history s.name =
    All-at (λ (u : Stream). u.landmarks ≡ landmarks_of history u.name) (state history) place s
    (All-state (λ (u : Stream). u.landmarks ≡ landmarks_of history u.name) history (λ c. refl)) at in
    let marks = ap mark_events landmarks in
    let all = counted-history history whole s.name (stands-at (state history) place s at) in
    omega (arith, count, marks, all)

-- ---- a stream that is held

-- of how many values there are at most
pub record IsCountedIn (history : List Happened) (part : StreamParts) : Type 0 where
  pub few : values_held (entries_of part) ≤ MOST_VALUES
  pub events : events_held part ≡ 1 + length (events_of history part.name)

pub counted-held : (parts : List StreamParts) (number : ℕ) (part : StreamParts) (history : List Happened) → IsHistory history →
    AllAgree parts (state history) → part_numbered number parts ≡ Some part → IsCountedIn history part
counted-held parts number part history whole agree found =
    let at = AreFound-numbered parts (state history) number part agree (IsState-state history whole) found in
    let values = values_held-Agrees part at.stream at.is at.agrees in
    let few = at.is.windows.few in
    let marks = ap mark_events at.agrees.landmarks in
    let count = counted-stream history at.place at.stream whole at.here in
    let events = ap (λ (name : List ℕ). length (events_of history name)) at.agrees.name in
    record { few = omega (arith, values, few); events = omega (arith, values, marks, count, events) }

pub few-held : (parts : List StreamParts) (number : ℕ) (part : StreamParts) (live : List Bool) → AreWhole parts live →
    part_numbered number parts ≡ Some part → values_held (entries_of part) ≤ MOST_VALUES
few-held parts number part live whole found =
    held-few (entries_of part)
    (All-found (λ (p : StreamParts). TileFrom 1 (entries_of p)) (λ (p : StreamParts). number == p.id.0) parts part whole.tiles found)

-- the sum fits, where a stream has no more values than it can take
pub sum-held : (part : StreamParts) (values marks sum : ℕ) → values ≡ values_held (entries_of part) → marks ≡ mark_events part.landmarks.landmarks →
    marks ≤ 3 * MOST_LANDMARK_SLOTS → values_held (entries_of part) ≤ MOST_VALUES → sum ≡ min (values + (1 + marks)) (2 ^ 64 - 1) → sum ≡ events_held part
sum-held part values marks sum values_is marks_is few_marks few is =
    let least : min (values + (1 + marks)) (2 ^ 64 - 1) ≡ values + (1 + marks) = omega arith in
    omega (arith, is, least, values_is, marks_is)
