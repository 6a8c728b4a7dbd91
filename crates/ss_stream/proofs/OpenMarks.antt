-- The open landmark among landmarks in order, and their times once one opens, takes a value or closes.
use Rattle.ss_stream.proofs.Common.{◌≡◌, ◌∙◌, ℕ, ◌+◌, ◌<◌, ◌≤◌, Bool, true, false, not, List, [], ◌∷◌, ◌++◌, length, refl, ap, sym, arith}
use Rattle.ss_stream.proofs.Common.{length-append, Option, None, Some, MatchOption, inl, inr, All, nat_le, list_all, and_parts}
use Rattle.ss_stream.proofs.Common.{cases_Bool, cond-false, cond-true, not-false, nat_tests, All-cons, All-head, All-nil, All-push, All-tail}
use Rattle.ss_stream.proofs.Common.{Refusal, Landmark, LandmarkValue, all_values, change_last, closed_at, open_landmark, opened_at, with_value, AllEndBy}
use Rattle.ss_stream.proofs.Common.{CanClose, EndsBy, FollowFrom, cases-finish, AllEndBy-later, AreKnown, MOST_SLOTS, has_open, later, latest_in, latest_of}
use Rattle.ss_stream.proofs.Common.{lies_free, first_that_applies, is_before, is_opening, is_past, newest_time, Window, EndByLast, mark_slots, StreamParts}
use Rattle.ss_stream.proofs.Common.{latest_of-last, has_most_values, is_early, outline_held, CanMark, IsInOpen, landmarks_after, mark_refusal, values_open}
use Rattle.ss_stream.proofs.Common.{Mark}
use Rattle.ss_stream.proofs.Common.{Open, Close}
use Rattle.std.proofs.Common.{max, is_none, is_some}
use Rattle.ss_landmarks.specs.Free.{covers, is_free}
use Rattle.ss_landmarks.specs.Order.{AreLandmarks, CanOpen, CanTake, IsClosedBefore, IsLandmark}
use Rattle.ss_landmarks.proofs.TimeLemmas.{AllEndBy-close, AllEndBy-open, AllEndBy-take, CanClose-after, CanOpen-after, CanTake-after, CanTake-first}
use Rattle.ss_model.proofs.MarkLemmas.{LiesFree-lies_free}
use Rattle.ss_model.proofs.StreamLemmas.{first-is_opening, none-is_some, none-open}
use Rattle.ss_parts.proofs.LatestTimes.{latest_in-closed, latest_in-value}
use Rattle.ss_stream.specs.Marking.{start_open}
use Rattle.ss_stream.specs.declared.marking.Mark.TheVariants.{Value}

-- ---- which landmark is open

-- Of landmarks in order the last one is open, and the others end before it opens.
pub record HasOpen (from : ℕ) (ls : List Landmark) : Type 0 where
  pub before : List Landmark
  pub last : Landmark
  pub is : ls ≡ before ++ last ∷ []
  pub begun : last.finish ≡ None
  pub found : open_landmark ls ≡ Some last
  pub late : from ≤ last.start
  pub ends : AllEndBy last.start before

ends-before : (from start finish : ℕ) (l : Landmark) → IsLandmark l → l.finish ≡ Some finish → finish + 1 ≤ start → EndsBy start l
ends-before from start finish l is some before =
    let ends = rw some at is.finish in (
      omega (arith, ends.0),
      rw some (omega arith),
      λ k d below. let at = ends.2 k d below in omega (arith, at),
    )

pub HasOpen-follow : (from : ℕ) (ls : List Landmark) → FollowFrom from ls → has_open ls ≡ true → HasOpen from ls
HasOpen-follow from [] follow begun = absurd (let wrong : false ≡ true = begun in cc)
HasOpen-follow from (l ∷ ls) follow begun = elim (cases-finish l.finish) [
  | inl none ↦
      (let alone : ls ≡ [] = rw none at follow.2 in
      record {
        before = [];
        last = l;
        is = ap (λ rest. l ∷ rest) alone;
        begun = none;
        found = cond-true (is_none l.finish) (Some l) (open_landmark ls) (ap is_none none);
        late = follow.0;
        ends = All-nil (EndsBy l.start);
      })
  | inr some ↦
      (let behind = rw some.1 at follow.2 in
      let passed : open_landmark (l ∷ ls) ≡ open_landmark ls = cond-false (is_none l.finish) (Some l) (open_landmark ls) (ap is_none some.1) in
      let rest = HasOpen-follow (some.0 + 1) ls behind (ap is_some (sym passed) ∙ begun) in
      let here = ends-before from rest.last.start some.0 l follow.1 some.1 rest.late in
      record {
        before = l ∷ rest.before;
        last = rest.last;
        is = ap (λ rest. l ∷ rest) rest.is;
        begun = rest.begun;
        found = passed ∙ rest.found;
        late = omega (arith, here.0, follow.0);
        ends = All-cons (EndsBy rest.last.start) l rest.before here rest.ends;
      })
]

-- what is true of the open one is said of one
open-some : (P : Landmark → Type 0) (o : Option Landmark) → MatchOption o ⊥ P → is_some o ≡ true
open-some P None none = absurd none
open-some P (Some l) is = refl

-- of landmarks where an open one may take or close, at a time
pub HasOpen-can : (P : Landmark → Type 0) (ls : List Landmark) → AreLandmarks ls → MatchOption (open_landmark ls) ⊥ P → HasOpen 0 ls
HasOpen-can P ls order can = HasOpen-follow 0 ls order (open-some P (open_landmark ls) can)

pub open-has : (P : Landmark → Type 0) (from : ℕ) (ls : List Landmark) (has : HasOpen from ls) → MatchOption (open_landmark ls) ⊥ P → P has.last
open-has P from ls has can = rw has.found at can

-- the last one is changed, and the others stay
pub change-last : (change : Landmark → Landmark) (before : List Landmark) (l : Landmark) →
    change_last change (before ++ l ∷ []) ≡ before ++ change l ∷ []
change-last change [] l = refl
change-last change (x ∷ []) l = refl
change-last change (x ∷ y ∷ ys) l = ap (λ rest. x ∷ rest) (change-last change (y ∷ ys) l)

pub change-has : (change : Landmark → Landmark) (from : ℕ) (ls : List Landmark) (has : HasOpen from ls) →
    change_last change ls ≡ has.before ++ change has.last ∷ []
change-has change from ls has = ap (change_last change) has.is ∙ change-last change has.before has.last

-- ---- times

-- landmarks that are all closed before a time end by it
AllEndBy-closed : (from t : ℕ) (ls : List Landmark) → FollowFrom from ls → CanOpen ls t → AllEndBy t ls
AllEndBy-closed from t [] follow can = All-nil (EndsBy t)
AllEndBy-closed from t (l ∷ ls) follow can =
    let closed = All-head (IsClosedBefore t) l ls can in
    elim (cases-finish l.finish) [
      | inl none ↦ absurd (rw none at closed)
      | inr some ↦
          (let past : some.0 < t = rw some.1 at closed in
          let behind = rw some.1 at follow.2 in
          All-cons (EndsBy t) l ls (ends-before from t some.0 l follow.1 some.1 (omega (arith, past)))
          (AllEndBy-closed (some.0 + 1) t ls behind (All-tail (IsClosedBefore t) l ls can)))
    ]

-- one that is open ends by a time that isn't before its opening nor before its values
ends-open : (t : ℕ) (l : Landmark) → l.finish ≡ None → l.start ≤ t → All (λ (value : LandmarkValue). value.t ≤ t) l.values → EndsBy t l
ends-open t l begun start values = (start, rw begun tt, values)

AllEndBy-open_last : (t : ℕ) (ls : List Landmark) (has : HasOpen 0 ls) → has.last.start ≤ t → EndsBy t has.last → AllEndBy t ls
AllEndBy-open_last t ls has start ends = rw has.is (All-push (EndsBy t) has.before has.last (AllEndBy-later has.before has.last.start t start has.ends) ends)

abbrev pub takes : ℕ → Landmark → Type 0
takes t l = (l.start ≤ t) × All (λ value. value.t < t) l.values

abbrev pub closes : ℕ → Landmark → Type 0
closes t l = (l.start ≤ t) × All (λ value. value.t ≤ t) l.values

ends-takes : (t : ℕ) (l : Landmark) → l.finish ≡ None → takes t l → EndsBy t l
ends-takes t l begun can = ends-open t l begun can.0 (λ k d below. let at = can.1 k d below in omega (arith, at))

-- all landmarks end by a time at which one may open, take a value or close
pub AllEndBy-can : (ls : List Landmark) (t : ℕ) (mark : Mark) → AreLandmarks ls → CanMark ls t mark → AllEndBy t ls
AllEndBy-can ls t Open order can = AllEndBy-closed 0 t ls order can
AllEndBy-can ls t (Value v) order can =
    let has = HasOpen-can (takes t) ls order can in
    let at = open-has (takes t) 0 ls has can in
    AllEndBy-open_last t ls has at.0 (ends-takes t has.last has.begun at)
AllEndBy-can ls t Close order can =
    let has = HasOpen-can (closes t) ls order can in
    let at = open-has (closes t) 0 ls has can in
    AllEndBy-open_last t ls has at.0 (ends-open t has.last has.begun at.0 at.1)

-- and afterwards
pub AllEndBy-after : (ls : List Landmark) (t : ℕ) (mark : Mark) → AreLandmarks ls → CanMark ls t mark → AllEndBy t (landmarks_after ls t mark)
AllEndBy-after ls t Open order can = AllEndBy-open ls t t (AllEndBy-can ls t Open order can) (omega arith)
AllEndBy-after ls t (Value v) order can = AllEndBy-take ls t (record { t = t; v = v }) (AllEndBy-can ls t (Value v) order can) (omega arith)
AllEndBy-after ls t Close order can = AllEndBy-close ls t t (AllEndBy-can ls t Close order can) (omega arith)

-- the latest time is then this
latest_of-changed : (change : Landmark → Landmark) (t : ℕ) (ls : List Landmark) (has : HasOpen 0 ls) → has.last.start ≤ t →
    latest_in (change has.last) ≡ t → latest_of (change_last change ls) ≡ Some t
latest_of-changed change t ls has start is =
    ap latest_of (change-has change 0 ls has)
    ∙ latest_of-last has.before (change has.last) (rw is (AllEndBy-later has.before has.last.start t start has.ends)) ∙ ap Some is

pub latest_of-after : (ls : List Landmark) (t : ℕ) (mark : Mark) → AreLandmarks ls → CanMark ls t mark → latest_of (landmarks_after ls t mark) ≡ Some t
latest_of-after ls t Open order can = latest_of-last ls (opened_at t) (AllEndBy-can ls t Open order can)
latest_of-after ls t (Value v) order can =
    let has = HasOpen-can (takes t) ls order can in
    let at = open-has (takes t) 0 ls has can in
    let value : LandmarkValue = record { t = t; v = v } in
    latest_of-changed (with_value value) t ls has at.0 (latest_in-value has.last value (ends-takes t has.last has.begun at))
latest_of-after ls t Close order can =
    let has = HasOpen-can (closes t) ls order can in
    let at = open-has (closes t) 0 ls has can in
    latest_of-changed (closed_at t) t ls has at.0 (latest_in-closed has.last t (ends-open t has.last has.begun at.0 at.1))

pub later-last : (o p : Option ℕ) (t : ℕ) → p ≡ Some t → ((u : ℕ) → o ≡ Some u → u ≤ t) → later o p ≡ Some t
later-last None p t is by = is
later-last (Some u) p t is by =
    let le = by u refl in
    let most : max u t ≡ t = omega (arith, le) in
    ap (later (Some u)) is ∙ ap Some most

-- the newest of windows that lie free is free
newest-free : (ls : List Landmark) (ws : List Window) (old : ℕ) → list_all (lies_free ls) ws ≡ true → newest_time ws ≡ Some old → is_free ls old ≡ true
newest-free ls [] old free is = cc
newest-free ls (w ∷ []) old free is =
    let lies = LiesFree-lies_free ls w (and_parts (lies_free ls w) true free).0 in
    let same : w.summary.t_last ≡ old = cc in
    rw same at lies.last
newest-free ls (w ∷ v ∷ ws) old free is = newest-free ls (v ∷ ws) old (and_parts (lies_free ls w) (list_all (lies_free ls) (v ∷ ws)) free).1 is

-- and before the opening of one that is open
free-before : (before : List Landmark) (l : Landmark) (t : ℕ) → l.finish ≡ None → is_free (before ++ l ∷ []) t ≡ true → t < l.start
free-before [] l t begun free = elim (cases_Bool (nat_le l.start t)) [
  | inl after ↦
      (let covered : covers l t ≡ true = rw (after, begun) refl in
      absurd (let wrong : false ≡ true = rw covered at free in cc))
  | inr ahead ↦ grind (arith, nat_tests)
]
free-before (x ∷ xs) l t begun free = elim (cases_Bool (covers x t)) [
  | inl covered ↦ absurd (let wrong : false ≡ true = rw covered at free in cc)
  | inr apart ↦ free-before xs l t begun (rw apart at free)
]

pub newest-open : (ls : List Landmark) (has : HasOpen 0 ls) (ws : List Window) (old : ℕ) → list_all (lies_free ls) ws ≡ true → newest_time ws ≡ Some old →
    old < has.last.start
newest-open ls has ws old free is = free-before has.before has.last old has.begun (rw has.is at (newest-free ls ws old free is))

-- ---- what may follow, over every disk

lt-is_past : (last t : ℕ) → is_past (Some last) t ≡ false → last < t
lt-is_past last t past = grind (arith, nat_tests)

le-is_before : (last t : ℕ) → is_before (Some last) t ≡ false → last ≤ t
le-is_before last t before = grind (arith, nat_tests)

-- landmarks end by a last time, where there is one
abbrev EndByTime : Option ℕ → List Landmark → Type 0
EndByTime o ls = MatchOption o (ls ≡ []) (λ last. AllEndBy last ls)

CanOpen-past : (o : Option ℕ) (ls : List Landmark) (t : ℕ) → EndByTime o ls → has_open ls ≡ false → is_past o t ≡ false → CanOpen ls t
CanOpen-past None ls t ends none past = rw ends (All-nil (IsClosedBefore t))
CanOpen-past (Some last) ls t ends none past = CanOpen-after ls last t ends (rw (none-is_some (open_landmark ls) none)) (lt-is_past last t past)

CanTake-past : (o : Option ℕ) (ls : List Landmark) (t : ℕ) → EndByTime o ls → has_open ls ≡ true → is_past o t ≡ false → CanTake ls t
CanTake-past None ls t ends begun past = absurd (none-open ls begun ends)
CanTake-past (Some last) ls t ends begun past = CanTake-after ls last t ends begun (lt-is_past last t past)

CanClose-before : (o : Option ℕ) (ls : List Landmark) (t : ℕ) → EndByTime o ls → has_open ls ≡ true → is_before o t ≡ false → CanClose ls t
CanClose-before None ls t ends begun before = absurd (none-open ls begun ends)
CanClose-before (Some last) ls t ends begun before = CanClose-after ls last t ends begun (le-is_before last t before)

-- the tests that were passed
pub two-passed : (a b : Bool) (p q : Refusal) → first_that_applies ((a, p) ∷ (b, q) ∷ []) ≡ None → (a ≡ false) × (b ≡ false)
two-passed true b p q none = cc
two-passed false true p q none = cc
two-passed false false p q none = (refl, refl)

-- landmarks take what isn't refused
pub CanMark-accepted : (part : StreamParts) (t : ℕ) (mark : Mark) → EndByLast part → (IsInOpen mark → has_open part.landmarks.landmarks ≡ true) →
    mark_refusal part t mark ≡ None → CanMark part.landmarks.landmarks t mark
CanMark-accepted part t Open ends marked none =
    let passed = two-passed (has_open part.landmarks.landmarks) (is_past part.last_time t) _ _ none in
    CanOpen-past part.last_time part.landmarks.landmarks t ends passed.0 passed.1
CanMark-accepted part t (Value v) ends marked none =
    let early : is_early (outline_held part) t ≡ false = (two-passed (is_early (outline_held part) t) (has_most_values (outline_held part)) _ _ none).0 in
    elim (cases_Bool (is_past part.last_time t)) [
      | inl past ↦
          (let opening : not (is_opening part.landmarks.landmarks t) ≡ false = rw past at early in
          CanTake-first t (open_landmark part.landmarks.landmarks)
          (first-is_opening (open_landmark part.landmarks.landmarks) t (not-false (is_opening part.landmarks.landmarks t) opening)))
      | inr ahead ↦ CanTake-past part.last_time part.landmarks.landmarks t ends (marked tt) ahead
    ]
CanMark-accepted part t Close ends marked none =
    let passed = two-passed (not (has_open part.landmarks.landmarks)) (is_before part.last_time t) _ _ none in
    CanClose-before part.last_time part.landmarks.landmarks t ends (not-false (has_open part.landmarks.landmarks) passed.0) passed.1

-- ---- numbers

-- an open one is one of the landmarks, and its values are some of all
pub open-few : (ls : List Landmark) (l : Landmark) → open_landmark ls ≡ Some l → (1 ≤ length ls) × (length l.values ≤ length (all_values ls))
open-few [] l is = cc
open-few (x ∷ xs) l is =
    let all = length-append x.values (all_values xs) in
    elim (cases_Bool (is_none x.finish)) [
      | inl begun ↦
          (let same : Some x ≡ Some l = sym (cond-true (is_none x.finish) (Some x) (open_landmark xs) begun) ∙ is in
          let here : x ≡ l = cc in
          let values = ap (λ (y : Landmark). length y.values) here in
          (omega arith, omega (arith, all, values)))
      | inr closed ↦
          (let rest = open-few xs l (sym (cond-false (is_none x.finish) (Some x) (open_landmark xs) closed) ∙ is) in
          (omega arith, omega (arith, all, rest.1)))
    ]

values_open-none : (ls : List Landmark) → open_landmark ls ≡ None → values_open ls ≡ 0
values_open-none ls is = rw is refl

pub values_open-few : (ls : List Landmark) → values_open ls ≤ length (all_values ls)
values_open-few ls = go (open_landmark ls) refl
  where
    go : (o : Option Landmark) → open_landmark ls ≡ o → values_open ls ≤ length (all_values ls)
    go None is = omega (arith, values_open-none ls is)
    go (Some l) is = let few = open-few ls l is in let same : values_open ls ≡ length l.values = rw is refl in omega (arith, few.1)

-- there are fewer landmarks than slots, and the open one has fewer values
pub few-marks : (part : StreamParts) → AreKnown part.landmarks → length (mark_slots part) < MOST_SLOTS →
    (length part.landmarks.landmarks < MOST_SLOTS) × (values_open part.landmarks.landmarks < MOST_SLOTS)
few-marks part known few =
    let both = length-append part.landmarks.slots part.landmarks.value_slots in
    let values = values_open-few part.landmarks.landmarks in
    (omega (arith, both, known.slots, few), omega (arith, both, known.value_slots, few, values))

-- what is known of the open one when it takes a value or closes
pub start-has : (ls : List Landmark) (has : HasOpen 0 ls) → start_open ls ≡ has.last.start
start-has ls has = rw has.found refl

pub values-has : (ls : List Landmark) (has : HasOpen 0 ls) → values_open ls ≡ length has.last.values
values-has ls has = rw has.found refl

pub count-has : (ls : List Landmark) (has : HasOpen 0 ls) → length ls ≡ length has.before + 1
count-has ls has = ap length has.is ∙ length-append has.before (has.last ∷ [])
