-- How many slots a history allows, and images that use no more.
use Rattle.ss_stream.proofs.ShownCalls.{of_map-like}
use Rattle.ss_stream.proofs.Within.{UsesAtMost-also, UsesAtMost-more, UsesAtMost-of_map}
use Rattle.ss_store.proofs.Common.{◌≡◌, ◌+◌, ◌≤◌, ◌++◌, ⊎_elim, inl, inr, ℕ, List, [], ◌∷◌, None, Option, Result, Some, ap, append_assoc, arith}
use Rattle.ss_store.proofs.Common.{append-nil, on_ok_weaker, OnOk, max, weaker, LeavesOnly, NothingPending, Told, on_ok, SlotMap, StandsFor, Happened}
use Rattle.ss_store.proofs.Common.{live, state, RecordsState, shown_by, StaysWithin, IsShort, StandsShort, UsesAtMost, most_needed, StaysOr}
use Rattle.ss_store.specs.Uses.{most_needed_from}
use Rattle.ss_store.proofs.KeptStates.{Stands-of_map}

-- what is needed first, and what is needed last
live-first : (before after : List Happened) → live (state before) ≤ most_needed_from before after
live-first before [] = omega arith
live-first before (event ∷ after) = omega arith

pub live-last : (before after : List Happened) → live (state (before ++ after)) ≤ most_needed_from before after
live-last before [] = rw append-nil (omega arith)
live-last before (event ∷ after) =
    let rest = live-last (before ++ event ∷ []) after in
    let same = ap (λ h. live (state h)) (append_assoc before (event ∷ []) after) in
    omega (arith, rest, same)

-- more events never need less
most_needed-grows : (before after more : List Happened) → most_needed_from before after ≤ most_needed_from before (after ++ more)
most_needed-grows before [] more = live-first before more
most_needed-grows before (event ∷ after) more = omega (arith, most_needed-grows (before ++ event ∷ []) after more)

pub IsShort-more : (used : Option ℕ) (history more : List Happened) (image : List ℕ) → IsShort used history image → IsShort used (history ++ more) image
IsShort-more None history more image short = tt
IsShort-more (Some n) history more image short =
    UsesAtMost-more (max n (most_needed history + 1)) (max n (most_needed (history ++ more) + 1)) image
    (omega (arith, most_needed-grows [] history more)) short

-- an image that stands for the same map is as short
pub IsShort-also : (used : Option ℕ) (history : List Happened) (content image : List ℕ) (its : SlotMap) → StandsFor content its → StandsFor image its →
    IsShort used history content → IsShort used history image
IsShort-also None history content image its is also short = tt
IsShort-also (Some n) history content image its is also short = UsesAtMost-also (max n (most_needed history + 1)) content image its is also short

pub StandsShort-also : (used : Option ℕ) (history : List Happened) (content image : List ℕ) (stands : StandsShort used history content) →
    StandsFor image (Stands-of_map history content stands.0).0 → StandsShort used history image
StandsShort-also used history content image stands also =
    let its = Stands-of_map history content stands.0 in
    (its.2 image also, IsShort-also used history content image its.0 its.1 also stands.1)

-- both of two properties
pub both : (old new : Told) (P Q : List ℕ → Type 0) → LeavesOnly old new P → LeavesOnly old new Q → LeavesOnly old new (λ image. P image × Q image)
both old new P Q first second = record {
  later = first.later;
  each = λ image left. (first.each image left, second.each image left);
  earlier = λ t image le left. ⊎_elim (λ was. inl was)
      (λ p. ⊎_elim (λ was. inl was) (λ q. inr (p, q)) (second.earlier t image le left)) (first.earlier t image le left);
}

-- An event is staged where so many records were held, which is what the history needs that is shown.
module _ {T E : Type 0} (was is : RecordsState) (old new : Told) (result : Result T E) (records : ℕ)
    (within : StaysWithin (records + 1) was is result old new) (history : List Happened) (few : live (state history) ≡ records) where
  allowed : (n : ℕ) → records + 1 ≤ max n (most_needed history + 1)
  allowed n = omega (arith, few, live-last [] history)

  pub IsShort-staged : (used : Option ℕ) (more : List Happened) → IsShort used history (shown_by was old.content) →
      OnOk result (IsShort used (history ++ more) (shown_by is new.content))
  IsShort-staged None more short = on_ok result tt
  IsShort-staged (Some n) more short =
      on_ok_weaker result (λ (uses : IsShort (Some n) history (shown_by is new.content)). IsShort-more (Some n) history more (shown_by is new.content) uses)
      ((within.turns (max n (most_needed history + 1)) (allowed n)).content short)

  -- what a crash leaves: an image like the content, or one that is no longer than is allowed
  pub moments-staged : (used : Option ℕ) (M L : List ℕ → Type 0) → NothingPending old → IsShort used history (shown_by was old.content) →
      ((image : List ℕ) → ((found : SlotMap) → StandsFor old.content found → StandsFor image found) → L image) →
      ((image : List ℕ) → StaysOr old M image → IsShort used history image → L image) →
      LeavesOnly old new (StaysOr old M) → LeavesOnly old new L
  moments-staged None M L none short of_content of_moved run = weaker old new (StaysOr old M) L (λ image left. of_moved image left tt) run
  moments-staged (Some n) M L none short of_content of_moved run =
      let most = max n (most_needed history + 1) in
      weaker old new (λ image. StaysOr old M image × StaysOr old (UsesAtMost most) image) L
      (λ image left. elim left.1.1 [
        | inl same ↦ of_content image (λ found stands. left.1.2 found (rw same stands))
        | inr uses ↦ of_moved image left.0 (of_map-like (UsesAtMost most) (UsesAtMost-of_map most) image (left.1.0, uses, left.1.2))
      ])
      (both old new (StaysOr old M) (StaysOr old (UsesAtMost most)) run ((within.turns most (allowed n)).any_moment none short))
