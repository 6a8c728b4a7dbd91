-- What a file stands for that isn't formed.
use Rattle.ss_store.proofs.Common.{◌≡◌, ℕ, List, [], ◌∷◌, filter, map, IsTrue, refl, ap, not, range_with_len, IsPermutation-refl}
use Rattle.ss_store.proofs.Common.{is_unborn, StandsFor, blank_map, zeros, SameMap-refl, StandsFor-from, are_zeros, occupied, Recovers, Stands}
use Rattle.ss_journal.proofs.RedoLemmas.{redo-unborn}
use Rattle.ss_model.specs.State.{state}
use Rattle.ss_model.proofs.HistoryLemmas.{IsHistory-nil}
use Rattle.ss_model.proofs.StandLemmas.{IsState-nil}
use Rattle.ss_store.proofs.Among.{Recovers-held}

none-live : (slots : List ℕ) → filter (λ slot. not (are_zeros zeros)) slots ≡ []
none-live [] = refl
none-live (slot ∷ slots) = none-live slots

none-occupied : (image : List ℕ) → occupied (blank_map image) ≡ []
none-occupied image = ap (map _) (none-live (range_with_len 0 (blank_map image).extent))

state-nil : state [] ≡ []
unfolding state
state-nil = refl

pub Stands-unformed : (image : List ℕ) → IsTrue (is_unborn image) → Stands [] image
Stands-unformed image unborn =
    let found = blank_map image in
    let is : StandsFor image found = StandsFor-from image found found (redo-unborn image unborn) (SameMap-refl found) in
    let recovers : Recovers [] image =
    Recovers-held [] [] image tt IsState-nil (record { found = found; map = is; occupied = rw none-occupied (IsPermutation-refl []) }) in
    record { is_history = IsHistory-nil; state = rw state-nil recovers }
