-- Landmarks none of whose times is after another, and the values of landmarks that change.
use Rattle.std.proofs.Common.{◌≡◌, ◌∙◌, sym, ap, refl, ℕ, ◌+◌, ◌-◌, ◌<◌, ◌≤◌, true, false, List, [], ◌∷◌, ◌++◌, length, Option, Some, None}
use Rattle.std.proofs.Common.{IfSome, IsSome, IsNone, MatchOption, is_none, inl, inr, arith, get_or}
use Rattle.std.specs.List.{All}
use Rattle.std.proofs.lemmas.Bool.{both_ways, cond-true, cond-false}
use Rattle.std.proofs.lemmas.List.{append-nil, append_assoc}
use Rattle.std.proofs.lemmas.List.Concat.{flat_map-append}
use Rattle.std.proofs.lemmas.List.Elements.{All-tail, All-cons, All-nil, All-push}
use Rattle.ss_landmarks.specs.Free.{is_free, free}
use Rattle.ss_landmarks.specs.Landmark.{Landmark, LandmarkValue, opened_at, with_value, closed_at, change_last, open_landmark, all_values}
use Rattle.ss_landmarks.specs.Order.{IsClosedBefore, CanOpen, CanTake, CanClose, EndsBy, AllEndBy}
use Rattle.ss_landmarks.proofs.Counting.{among-add, among-le}
use Rattle.ss_landmarks.proofs.OrderLemmas.{cases-finish}

-- ---- what may follow

pub CanOpen-after : (ls : List Landmark) (last t : ℕ) → AllEndBy last ls → IsNone (open_landmark ls) → last < t → CanOpen ls t
CanOpen-after [] last t ends none lt = λ k d below. absurd (omega arith)
CanOpen-after (l ∷ ls) last t ends none lt =
    elim (cases-finish l.finish) [
      | inl begun ↦ absurd (let is : open_landmark (l ∷ ls) ≡ Some l = cond-true (is_none l.finish) (Some l) (open_landmark ls) (ap is_none begun) in
          both_ways true (rw is at none) refl)
      | inr some ↦ (
          let is : open_landmark (l ∷ ls) ≡ open_landmark ls = cond-false (is_none l.finish) (Some l) (open_landmark ls) (ap is_none some.1) in
          let by : some.0 ≤ last = rw some.1 at (ends 0 l (omega arith)).1 in
          All-cons (IsClosedBefore t) l ls (rw some.1 (omega (arith, by))) (CanOpen-after ls last t (All-tail (EndsBy last) l ls ends) (rw is at none) lt))
    ]

-- what holds of each holds of the open one
open-from_all : (P Q : Landmark → Type 0) → ((l : Landmark) → P l → Q l) → (ls : List Landmark) → All P ls → IsSome (open_landmark ls)
    → MatchOption (open_landmark ls) ⊥ Q
open-from_all P Q weaker [] all some = absurd (both_ways false refl some)
open-from_all P Q weaker (l ∷ ls) all some =
    elim (cases-finish l.finish) [
      | inl begun ↦ (
          let is : open_landmark (l ∷ ls) ≡ Some l = cond-true (is_none l.finish) (Some l) (open_landmark ls) (ap is_none begun) in
          rw is (weaker l (all 0 l (omega arith))))
      | inr closed ↦ (
          let is : open_landmark (l ∷ ls) ≡ open_landmark ls = cond-false (is_none l.finish) (Some l) (open_landmark ls) (ap is_none closed.1) in
          rw is (open-from_all P Q weaker ls (All-tail P l ls all) (rw is at some)))
    ]

pub CanTake-after : (ls : List Landmark) (last t : ℕ) → AllEndBy last ls → IsSome (open_landmark ls) → last < t → CanTake ls t
CanTake-after ls last t ends some lt =
    open-from_all (EndsBy last) (λ l. (l.start ≤ t) × All (λ value. value.t < t) l.values)
    (λ l by. (omega (arith, by.0), λ k d below. let at = by.2 k d below in omega (arith, at))) ls ends some

pub CanClose-after : (ls : List Landmark) (last t : ℕ) → AllEndBy last ls → IsSome (open_landmark ls) → last ≤ t → CanClose ls t
CanClose-after ls last t ends some le =
    open-from_all (EndsBy last) (λ l. (l.start ≤ t) × All (λ value. value.t ≤ t) l.values)
    (λ l by. (omega (arith, by.0), λ k d below. let at = by.2 k d below in omega (arith, at))) ls ends some

pub CanTake-first : (t : ℕ) (o : Option Landmark) → MatchOption o ⊥ (λ l. (l.start ≤ t) × (length l.values ≡ 0))
    → MatchOption o ⊥ (λ l. (l.start ≤ t) × All (λ value. value.t < t) l.values)
CanTake-first t None is = is
CanTake-first t (Some l) is = (is.0, λ k d below. absurd (omega (arith, is.1)))

-- ---- the last time

EndsBy-later : (last t : ℕ) (l : Landmark) → last ≤ t → EndsBy last l → EndsBy t l
EndsBy-later last t l le by = (
  omega (arith, by.0),
  elim l.finish as (λ f. IfSome f (λ finish. finish ≤ last) → IfSome f (λ finish. finish ≤ t)) [ None ↦ λ _. tt | Some e ↦ λ at. omega (arith, at) ] by.1,
  λ k d below. let at = by.2 k d below in omega (arith, at),
)

pub AllEndBy-later : (ls : List Landmark) (last t : ℕ) → last ≤ t → AllEndBy last ls → AllEndBy t ls
AllEndBy-later ls last t le ends k d below = EndsBy-later last t (get_or ls k d) le (ends k d below)

pub AllEndBy-open : (ls : List Landmark) (last t : ℕ) → AllEndBy last ls → last ≤ t → AllEndBy t (ls ++ opened_at t ∷ [])
AllEndBy-open ls last t ends le =
    All-push (EndsBy t) ls (opened_at t) (AllEndBy-later ls last t le ends) (omega arith, tt, λ k d below. absurd (omega arith))

AllEndBy-change : (change : Landmark → Landmark) (t : ℕ) → ((l : Landmark) → EndsBy t l → EndsBy t (change l)) → (ls : List Landmark) → AllEndBy t ls
    → AllEndBy t (change_last change ls)
AllEndBy-change change t good [] ends = ends
AllEndBy-change change t good (l ∷ []) ends = All-cons (EndsBy t) (change l) [] (good l (ends 0 l (omega arith))) (All-nil (EndsBy t))
AllEndBy-change change t good (l ∷ next ∷ ls) ends =
    All-cons (EndsBy t) l (change_last change (next ∷ ls)) (ends 0 l (omega arith))
    (AllEndBy-change change t good (next ∷ ls) (All-tail (EndsBy t) l (next ∷ ls) ends))

pub AllEndBy-take : (ls : List Landmark) (last : ℕ) (value : LandmarkValue) → AllEndBy last ls → last ≤ value.t
    → AllEndBy value.t (change_last (with_value value) ls)
AllEndBy-take ls last value ends le =
    AllEndBy-change (with_value value) value.t (λ l by. (by.0, by.1, All-push (λ (x : LandmarkValue). x.t ≤ value.t) l.values value by.2 (omega arith)))
    ls (AllEndBy-later ls last value.t le ends)

pub AllEndBy-close : (ls : List Landmark) (last t : ℕ) → AllEndBy last ls → last ≤ t → AllEndBy t (change_last (closed_at t) ls)
AllEndBy-close ls last t ends le =
    AllEndBy-change (closed_at t) t (λ l by. (by.0, omega arith, by.2)) ls (AllEndBy-later ls last t le ends)

-- ---- the values

pub all_values-open : (ls : List Landmark) (t : ℕ) → all_values (ls ++ opened_at t ∷ []) ≡ all_values ls
all_values-open ls t = flat_map-append (λ (l : Landmark). l.values) ls (opened_at t ∷ []) ∙ append-nil (all_values ls)

pub all_values-take : (ls : List Landmark) (value : LandmarkValue) → 0 < length ls
    → all_values (change_last (with_value value) ls) ≡ all_values ls ++ value ∷ []
all_values-take [] value some = absurd (omega arith)
all_values-take (l ∷ []) value some = append-nil (l.values ++ value ∷ []) ∙ ap (λ (own : List LandmarkValue). own ++ value ∷ []) (sym (append-nil l.values))
all_values-take (l ∷ next ∷ ls) value some =
    ap (λ (rest : List LandmarkValue). l.values ++ rest) (all_values-take (next ∷ ls) value (omega arith))
    ∙ sym (append_assoc l.values (all_values (next ∷ ls)) (value ∷ []))

pub all_values-close : (ls : List Landmark) (t : ℕ) → all_values (change_last (closed_at t) ls) ≡ all_values ls
all_values-close [] t = refl
all_values-close (l ∷ []) t = refl
all_values-close (l ∷ next ∷ ls) t = ap (λ (rest : List LandmarkValue). l.values ++ rest) (all_values-close (next ∷ ls) t)

-- ---- free times

pub free-add : (ls : List Landmark) (p q r : ℕ) → p ≤ q + 1 → q ≤ r → free ls p q + free ls (q + 1) r ≡ free ls p r
free-add ls p q r first second = sym (among-add (is_free ls) p (q + 1 - p) (r + 1 - (q + 1)) (r + 1 - p) (q + 1) (omega arith) (omega arith))

pub free-le : (ls : List Landmark) (p q : ℕ) → free ls p q ≤ q + 1 - p
free-le ls p q = among-le (is_free ls) p (q + 1 - p)
