-- What a store holds, and the state of an image that has its records. What an image recovers to is a property of its map.
use Rattle.ss_store.proofs.Common.{◌≡◌, ℕ, List, refl, sym, ◌∙◌, SlotMap, StandsFor, redo, stands, not_a_store, bad_entry, SameMap-refl, StandsFor-from}
use Rattle.ss_store.proofs.Common.{Happened, IsState, Stream, state, AllAgree, StoreIsIn, StoreState, Recovers, Stands, recovered_from, recovers}
use Rattle.ss_journal.specs.Redo.{Redone}
use Rattle.ss_stream.proofs.ShownCalls.{IsOfMap}
use Rattle.ss_store.specs.Recover.{recover}
use Rattle.ss_store.proofs.Among.{Recovers-held, recover-StandsFor}

-- an image recovers to one state
pub Recovers-same : (first second : List Stream) (image : List ℕ) → Recovers first image → Recovers second image → first ≡ second
Recovers-same first second image one two =
    let same : recovers first ≡ recovers second = sym one ∙ two in
    cc

-- and that of what is kept is the one that is held
pub Recovers-StoreIsIn : (store : StoreState) (image : List ℕ) (kept : StoreIsIn store image) → Recovers kept.streams image
Recovers-StoreIsIn store image kept = rw kept.closed at (Recovers-held store.streams kept.streams image kept.agree kept.state kept.held)

pub AllAgree-recovered : (store : StoreState) (image : List ℕ) (streams : List Stream) → StoreIsIn store image → Recovers streams image →
    AllAgree store.streams streams × IsState streams
AllAgree-recovered store image streams kept is =
    rw (← Recovers-same kept.streams streams image (Recovers-StoreIsIn store image kept) is) (kept.agree, kept.state)

-- what recovers to streams stands for a map
redone-stands : (redone : Redone) (streams : List Stream) → recovered_from redone ≡ recovers streams → (found : SlotMap) × (redone ≡ stands found)
redone-stands not_a_store streams is = cc
redone-stands (bad_entry n) streams is = cc
redone-stands (stands found) streams is = (found, refl)

pub Recovers-of_map : (streams : List Stream) → IsOfMap (Recovers streams)
unfolding recover
Recovers-of_map streams image is =
    let found = redone-stands (redo image) streams is in
    let its : StandsFor image found.0 = StandsFor-from image found.0 found.0 found.1 (SameMap-refl found.0) in
    (found.0, its, λ other also. recover-StandsFor other found.0 also ∙ sym (recover-StandsFor image found.0 its) ∙ is)

pub Stands-of_map : (history : List Happened) → IsOfMap (Stands history)
Stands-of_map history image held =
    let its = Recovers-of_map (state history) image held.state in
    (its.0, its.1, λ other also. record { is_history = held.is_history; state = its.2 other also })
