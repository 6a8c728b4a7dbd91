-- Landmarks in order of time: what an opening, a value and a closing leave of the order, and that all values rise.
use Rattle.std.proofs.Common.{◌≡◌, ◌∙◌, ap, refl, ℕ, ◌+◌, ◌<◌, ◌≤◌, List, [], ◌∷◌, ◌++◌, Option, Some, None, MatchOption, is_none, ◌⊎◌, inl, inr, arith}
use Rattle.std.specs.Prelude.{FitsSigned}
use Rattle.std.specs.Int.{w64}
use Rattle.std.specs.List.{All}
use Rattle.std.proofs.lemmas.Bool.{cond-true, cond-false}
use Rattle.std.proofs.lemmas.List.{append-nil}
use Rattle.std.proofs.lemmas.List.Elements.{All-tail}
use Rattle.ss_landmarks.specs.Landmark.{Landmark, LandmarkValue, opened_at, with_value, closed_at, change_last, open_landmark, all_values}
use Rattle.ss_landmarks.specs.Order.{IsClosedBefore, CanOpen, CanTake, CanClose, RiseFrom, IsLandmark, FollowFrom, AreLandmarks}
use Rattle.ss_base.specs.declared.limits.TheConstants.{LAST_TIME}
use Rattle.ss_landmarks.proofs.ValueLemmas.{RiseFrom-earlier}

pub cases-finish : (finish : Option ℕ) → (finish ≡ None) ⊎ ((t : ℕ) × (finish ≡ Some t))
cases-finish None = inl refl
cases-finish (Some t) = inr (t, refl)

-- ---- values at rising times

pub RiseFrom_push : (from : ℕ) (xs : List LandmarkValue) (value : LandmarkValue) → RiseFrom from xs → from ≤ value.t
    → All (λ x. x.t < value.t) xs → value.t ≤ LAST_TIME → FitsSigned w64 value.v → RiseFrom from (xs ++ value ∷ [])
RiseFrom_push from [] value rise low below early fits = (low, early, fits, tt)
RiseFrom_push from (x ∷ xs) value rise low below early fits = (
  rise.0,
  rise.1,
  rise.2,
  RiseFrom_push (x.t + 1) xs value rise.3 (omega (arith, below 0 x (omega arith)))
      (All-tail (λ y. y.t < value.t) x xs below) early fits,
)

RiseFrom-append : (from end : ℕ) (xs ys : List LandmarkValue) → RiseFrom from xs → from ≤ end + 1
    → All (λ x. x.t ≤ end) xs → RiseFrom (end + 1) ys → RiseFrom from (xs ++ ys)
RiseFrom-append from end [] ys rise low within later = RiseFrom-earlier (end + 1) from ys low later
RiseFrom-append from end (x ∷ xs) ys rise low within later =
    (rise.0, rise.1, rise.2, RiseFrom-append (x.t + 1) end xs ys rise.3 (omega (arith, within 0 x (omega arith))) (All-tail (λ y. y.t ≤ end) x xs within) later)

-- the values of all landmarks rise
pub RiseFrom-all_values : (from : ℕ) (ls : List Landmark) → FollowFrom from ls → RiseFrom from (all_values ls)
RiseFrom-all_values from [] follow = tt
RiseFrom-all_values from (l ∷ ls) follow =
    let own = follow.1.values in
    elim (cases-finish l.finish) [
      | inl none ↦ (
          let last : ls ≡ [] = rw none at follow.2 in
          let whole : l.values ++ all_values ls ≡ l.values = ap (λ (rest : List Landmark). l.values ++ all_values rest) last ∙ append-nil l.values in
          rw whole (RiseFrom-earlier l.start from l.values follow.0 own))
      | inr some ↦ (
          let later = rw some.1 at follow.2 in
          let ends = rw some.1 at follow.1.finish in
          RiseFrom-earlier l.start from (l.values ++ all_values ls) follow.0
          (RiseFrom-append l.start some.0 l.values (all_values ls) own (omega (arith, ends.0)) ends.2 (RiseFrom-all_values (some.0 + 1) ls later)))
    ]

-- ---- an opening

pub FollowFrom-open : (from t : ℕ) (ls : List Landmark) → FollowFrom from ls → CanOpen ls t → from ≤ t → t ≤ LAST_TIME
    → FollowFrom from (ls ++ opened_at t ∷ [])
FollowFrom-open from t [] follow can low early = (low, record { start = early; values = tt; finish = tt }, refl)
FollowFrom-open from t (l ∷ ls) follow can low early =
    let closed = can 0 l (omega arith) in
    let rest = All-tail (IsClosedBefore t) l ls can in
    elim (cases-finish l.finish) [
      | inl none ↦ absurd (rw none at closed)
      | inr some ↦ (
          let past = rw some.1 at closed in
          let later = rw some.1 at follow.2 in (
            follow.0,
            follow.1,
            rw some.1 (FollowFrom-open (some.0 + 1) t ls later rest (omega (arith, past)) early),
          ))
    ]

-- ---- a value or a closing

module _ (P : Landmark → Type 0) (l : Landmark) (ls : List Landmark) where
  open-here : l.finish ≡ None → MatchOption (open_landmark (l ∷ ls)) ⊥ P → P l
  open-here none is = rw (cond-true (is_none l.finish) (Some l) (open_landmark ls) (ap is_none none)) at is

  open-later : (t : ℕ) → l.finish ≡ Some t → MatchOption (open_landmark (l ∷ ls)) ⊥ P → MatchOption (open_landmark ls) ⊥ P
  open-later t some is = rw (cond-false (is_none l.finish) (Some l) (open_landmark ls) (ap is_none some)) at is

-- a change of the open landmark that leaves its opening
module _ (P : Landmark → Type 0) (change : Landmark → Landmark)
    (good : (l : Landmark) → IsLandmark l → l.finish ≡ None → P l → IsLandmark (change l))
    (starts : (l : Landmark) → (change l).start ≡ l.start) where
  FollowFrom-change : (from : ℕ) (ls : List Landmark) → FollowFrom from ls → MatchOption (open_landmark ls) ⊥ P → FollowFrom from (change_last change ls)
  FollowFrom-change from [] follow is = absurd is
  FollowFrom-change from (l ∷ []) follow is =
      elim (cases-finish l.finish) [
        | inl none ↦ (
          omega (arith, follow.0, starts l),
          good l follow.1 none (open-here P l [] none is),
          elim (change l).finish as (λ f. MatchOption f (◌≡◌ {A = List Landmark} [] []) (λ t. Unit {0})) [ None ↦ refl | Some t ↦ tt ],
        )
        | inr some ↦ absurd (open-later P l [] some.0 some.1 is)
      ]
  FollowFrom-change from (l ∷ next ∷ ls) follow is =
      elim (cases-finish l.finish) [
        | inl none ↦ (let last : next ∷ ls ≡ [] = rw none at follow.2 in cc)
        | inr some ↦ (
            let later = rw some.1 at follow.2 in
            let rest = change_last change (next ∷ ls) in (
              follow.0,
              follow.1,
              rw some.1 (FollowFrom-change (some.0 + 1) (next ∷ ls) later (open-later P l (next ∷ ls) some.0 some.1 is)),
            ))
      ]

pub AreLandmarks-take : (ls : List Landmark) (value : LandmarkValue) → AreLandmarks ls → CanTake ls value.t → value.t ≤ LAST_TIME
    → FitsSigned w64 value.v → AreLandmarks (change_last (with_value value) ls)
AreLandmarks-take ls value order can early fits =
    FollowFrom-change (λ l. (l.start ≤ value.t) × All (λ x. x.t < value.t) l.values) (with_value value)
    (λ l is none after. record {
      start = is.start;
      values = RiseFrom_push l.start l.values value is.values after.0 after.1 early fits;
      finish = rw none tt;
    })
    (λ l. refl) 0 ls order can

pub AreLandmarks-close : (ls : List Landmark) (t : ℕ) → AreLandmarks ls → CanClose ls t → t ≤ LAST_TIME
    → AreLandmarks (change_last (closed_at t) ls)
AreLandmarks-close ls t order can early =
    FollowFrom-change (λ l. (l.start ≤ t) × All (λ x. x.t ≤ t) l.values) (closed_at t)
    (λ l is none after. record { start = is.start; values = is.values; finish = (after.0, early, after.1) })
    (λ l. refl) 0 ls order can
