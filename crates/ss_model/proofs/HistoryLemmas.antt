-- Histories, event by event.
use Rattle.ss_model.proofs.Common.{◌≡◌, List, [], ◌∷◌, ◌++◌, refl, sym, None, append_assoc, subst, inl, inr, ◌⊎◌, append-nil, CanBeSaid, Happened, IsHistory}
use Rattle.ss_model.proofs.Common.{refuses, IsState}
use Rattle.ss_model.specs.State.{state}
use Rattle.ss_model.proofs.StepLemmas.{state-push}
use Rattle.ss_model.proofs.StandLemmas.{IsState-nil, IsState-stepped}

-- where an element of a list with one more at its end stands: it is the last one, or it stands in the list
pub record IsLast {X : Type 0} (xs : List X) (x : X) (before : List X) (y : X) (after : List X) : Type 0 where
  pub front : xs ≡ before
  pub last : x ≡ y

pub record IsEarlier {X : Type 0} (xs : List X) (before : List X) (y : X) (x : X) : Type 0 where
  pub rest : List X
  pub front : xs ≡ before ++ y ∷ rest

not-nil : {X : Type 0} (before : List X) (y : X) (after : List X) → [] ≡ before ++ y ∷ after → ⊥
not-nil [] y after same = cc
not-nil (b ∷ bs) y after same = cc

pub split_push : {X : Type 0} (xs : List X) (x : X) (before : List X) (y : X) (after : List X) → xs ++ x ∷ [] ≡ before ++ y ∷ after →
    IsLast xs x before y after ⊎ IsEarlier xs before y x
split_push [] x [] y after same = inl (record { front = refl; last = cc })
split_push [] x (b ∷ bs) y after same = absurd (not-nil bs y after cc)
split_push (u ∷ us) x [] y after same = inr (record { rest = us; front = cc })
split_push (u ∷ us) x (b ∷ bs) y after same =
    let first : u ≡ b = cc in
    let rest : us ++ x ∷ [] ≡ bs ++ y ∷ after = cc in
    elim (split_push us x bs y after rest) [
      | inl last ↦ inl (record { front = rw (first, last.front) refl; last = last.last })
      | inr earlier ↦ inr (record { rest = earlier.rest; front = rw (first, earlier.front) refl })
    ]

pub IsHistory-nil : IsHistory []
IsHistory-nil = record {
  said = λ before after event same. absurd (not-nil before event after same);
  accepted = λ before after event same. absurd (not-nil before event after same);
}

-- one event after a history
pub record GoesOn (history : List Happened) (event : Happened) : Type 0 where
  pub before : IsHistory history
  pub said : CanBeSaid event.0
  pub accepted : refuses (state history) event.0 ≡ None

pub IsHistory_push : (history : List Happened) (event : Happened) → GoesOn history event → IsHistory (history ++ event ∷ [])
IsHistory_push history event on = record {
  said = λ before after e same. elim (split_push history event before e after same) [
    | inl last ↦ subst (λ (x : Happened). CanBeSaid x.0) last.last on.said
    | inr earlier ↦ on.before.said before earlier.rest e earlier.front
  ];
  accepted = λ before after e same. elim (split_push history event before e after same) [
    | inl last ↦ rw (← last.front, ← last.last) on.accepted
    | inr earlier ↦ on.before.accepted before earlier.rest e earlier.front
  ];
}

pub GoesOn-push : (history : List Happened) (event : Happened) → IsHistory (history ++ event ∷ []) → GoesOn history event
GoesOn-push history event whole = record {
  before = record {
    said = λ before after e same. whole.said before (after ++ event ∷ []) e (rw same (append_assoc before (e ∷ after) (event ∷ [])));
    accepted = λ before after e same. whole.accepted before (after ++ event ∷ []) e (rw same (append_assoc before (e ∷ after) (event ∷ [])));
  };
  said = whole.said history [] event refl;
  accepted = whole.accepted history [] event refl;
}

-- what holds of the empty list, and stays when one more is put at its end, holds of every list
pub by_pushes : {X : Type 0} (P : List X → Type 0) → ((us : List X) (x : X) → P us → P (us ++ x ∷ [])) → (us vs : List X) → P us → P (us ++ vs)
by_pushes P step us [] given = rw (append-nil us) given
by_pushes P step us (x ∷ xs) given = rw (append_assoc us (x ∷ []) xs) at (by_pushes P step (us ++ x ∷ []) xs (step us x given))

pub IsState-state : (history : List Happened) → IsHistory history → IsState (state history)
unfolding state
IsState-state history =
    by_pushes (λ us. IsHistory us → IsState (state us))
    (λ us event before whole.
    let on = GoesOn-push us event whole in
    subst (λ ss. IsState ss) (sym (state-push us event.0 event.1 on.accepted))
    (IsState-stepped event.1 (state us) event.0 (before on.before) on.said on.accepted))
    [] history (λ none. IsState-nil)
