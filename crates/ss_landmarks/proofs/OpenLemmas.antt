-- Which landmark is open after an opening, a value and a closing.
use Rattle.std.proofs.Common.{◌≡◌, ◌∙◌, sym, ap, refl, ℕ, ◌+◌, true, List, [], ◌∷◌, ◌++◌, Some, None, IsNone, MatchOption, is_none, inl, inr}
use Rattle.std.proofs.lemmas.Bool.{both_ways, cond-true, cond-false}
use Rattle.ss_landmarks.specs.Landmark.{Landmark, LandmarkValue, opened_at, with_value, closed_at, change_last, open_landmark}
use Rattle.ss_landmarks.specs.Order.{FollowFrom}
use Rattle.ss_landmarks.proofs.OrderLemmas.{cases-finish}

module _ (l : Landmark) (ls : List Landmark) where
  -- the first one, where it is open
  open_landmark-first : l.finish ≡ None → open_landmark (l ∷ ls) ≡ Some l
  open_landmark-first none = cond-true (is_none l.finish) (Some l) (open_landmark ls) (ap is_none none)

  -- a closed one is passed over
  open_landmark-later : (t : ℕ) → l.finish ≡ Some t → open_landmark (l ∷ ls) ≡ open_landmark ls
  open_landmark-later t some = cond-false (is_none l.finish) (Some l) (open_landmark ls) (ap is_none some)

  -- what follows a landmark
  last-open : l.finish ≡ None → MatchOption l.finish (ls ≡ []) (λ t. FollowFrom (t + 1) ls) → ls ≡ []
  last-open none follow = rw none at follow

  follow-closed : (t : ℕ) → l.finish ≡ Some t → MatchOption l.finish (ls ≡ []) (λ t. FollowFrom (t + 1) ls) → FollowFrom (t + 1) ls
  follow-closed t some follow = rw some at follow

pub open_landmark-open : (ls : List Landmark) (t : ℕ) → IsNone (open_landmark ls) → open_landmark (ls ++ opened_at t ∷ []) ≡ Some (opened_at t)
open_landmark-open [] t none = refl
open_landmark-open (l ∷ ls) t none =
    elim (cases-finish l.finish) [
      | inl begun ↦ absurd (both_ways true (rw open_landmark-first at none) refl)
      | inr some ↦ (
          open_landmark-later l (ls ++ opened_at t ∷ []) some.0 some.1
          ∙ open_landmark-open ls t (rw (open_landmark-later l ls some.0 some.1) at none))
    ]

pub open_landmark-take : (from : ℕ) (ls : List Landmark) (value : LandmarkValue) (l : Landmark) → FollowFrom from ls → open_landmark ls ≡ Some l
    → open_landmark (change_last (with_value value) ls) ≡ Some (with_value value l)
open_landmark-take from [] value l follow is = cc
open_landmark-take from (x ∷ []) value l follow is =
    elim (cases-finish x.finish) [
      | inl begun ↦ (
          let same : Some x ≡ Some l = sym (open_landmark-first x [] begun) ∙ is in
          let here : x ≡ l = cc in
          open_landmark-first (with_value value x) [] begun ∙ ap (λ (y : Landmark). Some (with_value value y)) here)
      | inr some ↦ (let none : None ≡ Some l = sym (open_landmark-later x [] some.0 some.1) ∙ is in cc)
    ]
open_landmark-take from (x ∷ next ∷ ls) value l follow is =
    elim (cases-finish x.finish) [
      | inl begun ↦ (let last : next ∷ ls ≡ [] = last-open x (next ∷ ls) begun follow.2 in cc)
      | inr some ↦ (
          open_landmark-later x (change_last (with_value value) (next ∷ ls)) some.0 some.1
          ∙ open_landmark-take (some.0 + 1) (next ∷ ls) value l (follow-closed x (next ∷ ls) some.0 some.1 follow.2)
          (sym (open_landmark-later x (next ∷ ls) some.0 some.1) ∙ is))
    ]

pub open_landmark-close : (from : ℕ) (ls : List Landmark) (t : ℕ) → FollowFrom from ls → IsNone (open_landmark (change_last (closed_at t) ls))
open_landmark-close from [] t follow = refl
open_landmark-close from (x ∷ []) t follow = refl
open_landmark-close from (x ∷ next ∷ ls) t follow =
    elim (cases-finish x.finish) [
      | inl begun ↦ (let last : next ∷ ls ≡ [] = last-open x (next ∷ ls) begun follow.2 in cc)
      | inr some ↦ rw (open_landmark-later x (change_last (closed_at t) (next ∷ ls)) some.0 some.1)
          (open_landmark-close (some.0 + 1) (next ∷ ls) t (follow-closed x (next ∷ ls) some.0 some.1 follow.2))
    ]
