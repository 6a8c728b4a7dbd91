-- Landmarks as they are held: which times they cover, and how many are free.
use Rattle.std.proofs.Common.{◌≡◌, ◌∙◌, ap, refl, ℕ, zero, suc, ◌+◌, ◌-◌, ◌<◌, ◌≤◌, Bool, true, false, List, [], ◌∷◌, length, Option, Some, None}
use Rattle.std.proofs.Common.{IfSome, ◌⊎◌, inl, inr, arith, get_or, take, drop}
use Rattle.std.specs.List.{All, list_any}
use Rattle.std.specs.List.Sorted.{IsNonDecreasingBy}
use Rattle.std.proofs.lemmas.Bool.{le-leb, lt-leb, and_left, and_right, and_from, or_from, or_left, or_right, not_from_true, not_from_false, cases_lt}
use Rattle.std.proofs.lemmas.Bool.{cases_order}
use Rattle.std.proofs.lemmas.List.{get_or_default}
use Rattle.std.proofs.lemmas.List.Elements.{All-cons}
use Rattle.ss_landmarks.specs.Landmark.{LandmarkValue}
use Rattle.ss_landmarks.specs.Free.{covers, is_free}
use Rattle.ss_landmarks.specs.Order.{FollowFrom}
use Rattle.ss_landmarks.specs.Stored.{landmarks_from, Apart}
use Rattle.ss_landmarks.specs.declared.stored.Closed.{Closed}
use Rattle.ss_landmarks.specs.declared.stored.Opened.{Opened}
use Rattle.ss_base.specs.declared.limits.TheConstants.{LAST_TIME}
use Rattle.ss_landmarks.proofs.Counting.{among, among-add, among-all, among-none}

-- ---- which times are covered

-- the time lies before or after the landmark
abbrev Misses : ℕ → Closed → Type 0
Misses u c = (u < c.start) ⊎ (c.finish < u)

covers-miss : (u start finish : ℕ) (values : List LandmarkValue) → (u < start) ⊎ (finish < u)
    → covers (record { start = start; finish = Some finish; values = values }) u ≡ false
covers-miss u start finish values (inl before) = and_left _ _ (lt-leb start u before)
covers-miss u start finish values (inr after) = and_right _ _ (lt-leb u finish after)

is_covered-miss : (u : ℕ) (cs : List Closed) (current : Option Opened) (values : List LandmarkValue)
    → All (Misses u) cs → IfSome current (λ o. u < o.start)
    → list_any (λ l. covers l u) (landmarks_from cs current values) ≡ false
is_covered-miss u [] None values missed before = refl
is_covered-miss u [] (Some o) values missed before = or_from _ _ (and_left _ _ (lt-leb o.start u before)) refl
is_covered-miss u (c ∷ cs) current values missed before =
    or_from _ _ (covers-miss u c.start c.finish (take c.values values) (missed 0 c (omega arith)))
    (is_covered-miss u cs current (drop c.values values) (λ k d lt. missed (suc k) d (omega arith)) before)

-- a time that is missed by all is free
pub is_free-miss : (u : ℕ) (cs : List Closed) (current : Option Opened) (values : List LandmarkValue)
    → All (Misses u) cs → IfSome current (λ o. u < o.start) → is_free (landmarks_from cs current values) u ≡ true
is_free-miss u cs current values missed before = not_from_false _ (is_covered-miss u cs current values missed before)

is_covered-hit : (u : ℕ) (cs : List Closed) (current : Option Opened) (values : List LandmarkValue) (k : ℕ) (d : Closed)
    → k < length cs → (get_or cs k d).start ≤ u → u ≤ (get_or cs k d).finish
    → list_any (λ l. covers l u) (landmarks_from cs current values) ≡ true
is_covered-hit u [] current values k d below begun lasts = absurd (omega arith)
is_covered-hit u (c ∷ cs) current values zero d below begun lasts =
    or_left _ _ (and_from _ _ (le-leb c.start u begun) (le-leb u c.finish lasts))
is_covered-hit u (c ∷ cs) current values (suc k) d below begun lasts =
    or_right _ _ (is_covered-hit u cs current (drop c.values values) k d (omega arith) begun lasts)

-- a time within a closed landmark isn't free
pub is_free-hit : (u : ℕ) (cs : List Closed) (current : Option Opened) (values : List LandmarkValue) (k : ℕ) (d : Closed)
    → k < length cs → (get_or cs k d).start ≤ u → u ≤ (get_or cs k d).finish
    → is_free (landmarks_from cs current values) u ≡ false
is_free-hit u cs current values k d below begun lasts =
    not_from_true _ (is_covered-hit u cs current values k d below begun lasts)

is_covered-open : (u : ℕ) (cs : List Closed) (o : Opened) (values : List LandmarkValue) → o.start ≤ u
    → list_any (λ l. covers l u) (landmarks_from cs (Some o) values) ≡ true
is_covered-open u [] o values begun = or_left _ _ (and_from _ _ (le-leb o.start u begun) refl)
is_covered-open u (c ∷ cs) o values begun = or_right _ _ (is_covered-open u cs o (drop c.values values) begun)

-- nor is a time from the opening of the open one on
pub is_free-open : (u : ℕ) (cs : List Closed) (o : Opened) (values : List LandmarkValue) → o.start ≤ u
    → is_free (landmarks_from cs (Some o) values) u ≡ false
is_free-open u cs o values begun = not_from_true _ (is_covered-open u cs o values begun)

-- ---- in order of time

module _ (from : ℕ) (c : Closed) (cs : List Closed) (from_start : from ≤ c.start) (lasts : (c.start ≤ c.finish) × (c.finish ≤ LAST_TIME)) where
  starts-cons : All (λ x. c.finish + 1 ≤ x.start) cs → All (λ x. from ≤ x.start) (c ∷ cs)
  starts-cons later zero d below = from_start
  starts-cons later (suc k) d below = let at = later k d (omega arith) in omega (arith, lasts.0, at)

  order-cons : All (λ x. c.finish + 1 ≤ x.start) cs
      → ((j k : ℕ) (d : Closed) → j < k → k < length cs → (get_or cs j d).finish < (get_or cs k d).start)
      → (j k : ℕ) (d : Closed) → j < k → k < length (c ∷ cs) → (get_or (c ∷ cs) j d).finish < (get_or (c ∷ cs) k d).start
  order-cons later order j zero d lt below = absurd (omega arith)
  order-cons later order zero (suc k) d lt below = let at = later k d (omega arith) in omega (arith, at)
  order-cons later order (suc j) (suc k) d lt below = order j k d (omega arith) (omega arith)

  Apart-cons-none : Apart (c.finish + 1) cs None → Apart from (c ∷ cs) None
  Apart-cons-none rest = record {
    starts = starts-cons rest.starts;
    ends = All-cons (λ x. (x.start ≤ x.finish) × (x.finish ≤ LAST_TIME)) c cs lasts rest.ends;
    order = order-cons rest.starts rest.order;
    open_start = tt;
    open_last = tt;
  }

  Apart-cons-some : (o : Opened) → Apart (c.finish + 1) cs (Some o) → Apart from (c ∷ cs) (Some o)
  Apart-cons-some o rest = record {
    starts = starts-cons rest.starts;
    ends = All-cons (λ x. (x.start ≤ x.finish) × (x.finish ≤ LAST_TIME)) c cs lasts rest.ends;
    order = order-cons rest.starts rest.order;
    open_start = (omega (arith, from_start, lasts.0, rest.open_start.0), rest.open_start.1);
    open_last = All-cons (λ x. x.finish < o.start) c cs (omega (arith, rest.open_start.0)) rest.open_last;
  }

-- landmarks that follow one another are apart
pub Apart-follow : (from : ℕ) (cs : List Closed) (current : Option Opened) (values : List LandmarkValue)
    → FollowFrom from (landmarks_from cs current values) → Apart from cs current
Apart-follow from [] None values follow = record {
  starts = λ k d below. absurd (omega arith);
  ends = λ k d below. absurd (omega arith);
  order = λ j k d lt below. absurd (omega arith);
  open_start = tt;
  open_last = tt;
}
Apart-follow from [] (Some o) values follow = record {
  starts = λ k d below. absurd (omega arith);
  ends = λ k d below. absurd (omega arith);
  order = λ j k d lt below. absurd (omega arith);
  open_start = (follow.0, follow.1.start);
  open_last = λ k d below. absurd (omega arith);
}
Apart-follow from (c ∷ cs) None values follow =
    Apart-cons-none from c cs follow.0 (follow.1.finish.0, follow.1.finish.1) (Apart-follow (c.finish + 1) cs None (drop c.values values) follow.2)
Apart-follow from (c ∷ cs) (Some o) values follow =
    Apart-cons-some from c cs follow.0 (follow.1.finish.0, follow.1.finish.1) o (Apart-follow (c.finish + 1) cs (Some o) (drop c.values values) follow.2)

-- their openings rise
pub Apart-rises : (from : ℕ) (cs : List Closed) (current : Option Opened) → Apart from cs current → IsNonDecreasingBy (λ c. c.start) cs
Apart-rises from cs current apart i j d le below =
    elim (cases_order i j) [
      | inl same ↦ rw same (omega arith)
      | inr (inl less) ↦ omega (arith, apart.order i j d less below, (apart.ends i d (omega arith)).0)
      | inr (inr more) ↦ absurd (omega arith)
    ]

-- ---- how many times are free

module _ (cs : List Closed) (current : Option Opened) (values : List LandmarkValue) (t : ℕ) where
  abbrev test : ℕ → Bool
  test = is_free (landmarks_from cs current values)

  -- none of the landmarks begins before this time
  pub free_before-none : All (λ c. t ≤ c.start) cs → IfSome current (λ o. t ≤ o.start) → among test 0 t ≡ t
  free_before-none later open_later =
      among-all test 0 t (λ u low high. is_free-miss u cs current values
      (λ k d below. let at = later k d below in inl (omega (arith, at)))
      (elim current as (λ o. IfSome o (λ x. t ≤ x.start) → IfSome o (λ x. u < x.start)) [ None ↦ λ _. tt | Some o ↦ λ at. omega (arith, at) ] open_later))

  module _ (from : ℕ) (apart : Apart from cs current) (i : ℕ) (d : Closed) (below : i < length cs)
      (later : (k : ℕ) (e : Closed) → i < k → k < length cs → t ≤ (get_or cs k e).start) where
    -- a time after the landmark at i, and before this one, is missed by all closed ones
    misses-after : (u : ℕ) → (get_or cs i d).finish + 1 ≤ u → u < t → All (Misses u) cs
    misses-after u past before k e lt =
        elim (cases_order k i) [
          | inl same ↦ (let here : get_or cs k e ≡ get_or cs i d = ap (λ (n : ℕ). get_or cs n e) same ∙ get_or_default cs i e d below in
              inr (omega (arith, ap (λ (c : Closed). c.finish) here)))
          | inr (inl left) ↦ (let here : get_or cs i e ≡ get_or cs i d = get_or_default cs i e d below in
              inr (omega (arith, apart.order k i e left below, (apart.ends i d below).0, ap (λ (c : Closed). c.start) here)))
          | inr (inr right) ↦ inl (omega (arith, later k e right lt))
        ]

    -- of the landmarks that begin before this time the last is at i
    pub free_before-last : (get_or cs i d).start ≤ t → IfSome current (λ o. t ≤ o.start)
        → among test 0 t ≡ among test 0 (get_or cs i d).start + (t - ((get_or cs i d).finish + 1))
    free_before-last begun open_later =
        let start = (get_or cs i d).start in
        let end = (get_or cs i d).finish + 1 in
        let lasts : start + 1 ≤ end = omega (arith, (apart.ends i d below).0) in
        let split : among test 0 t ≡ among test 0 start + among test start (t - start) =
        among-add test 0 start (t - start) t start (omega arith) (omega arith) in
        let covered = λ (n : ℕ) (within : start + n ≤ end). among-none test start n
        (λ u low high. is_free-hit u cs current values i d below low (omega arith)) in
        elim (cases_lt t end) [
          | inl short ↦ omega (arith, split, covered (t - start) (omega arith))
          | inr long ↦ (
              let rest : among test start (t - start) ≡ among test start (end - start) + among test end (t - end) =
              among-add test start (end - start) (t - end) (t - start) end (omega arith) (omega arith) in
              let free : among test end (t - end) ≡ t - end =
              among-all test end (t - end) (λ u low high. is_free-miss u cs current values (misses-after u low (omega arith))
              (elim current as (λ o. IfSome o (λ x. t ≤ x.start) → IfSome o (λ x. u < x.start)) [ None ↦ λ _. tt | Some o ↦ λ at. omega (arith, at) ]
              open_later)) in
              omega (arith, split, rest, free, covered (end - start) (omega arith)))
        ]

-- none is free from the opening of the open one on
pub free_before-open : (cs : List Closed) (o : Opened) (values : List LandmarkValue) (t : ℕ) → o.start ≤ t
    → among (is_free (landmarks_from cs (Some o) values)) 0 t ≡ among (is_free (landmarks_from cs (Some o) values)) 0 o.start
free_before-open cs o values t begun =
    let test = is_free (landmarks_from cs (Some o) values) in
    let none = among-none test o.start (t - o.start) (λ u low high. is_free-open u cs o values low) in
    omega (arith, none, among-add test 0 o.start (t - o.start) t o.start (omega arith) (omega arith))
