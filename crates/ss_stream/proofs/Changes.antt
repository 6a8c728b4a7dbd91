-- What a transaction of puts makes of the records in the slots of an image, and of the slots that are live.
use Rattle.ss_stream.proofs.Common.{Bool, IsPermutation, IsTrue, List, Option, Some, [], ap, arith, cond, false, inl, inr, length, not, refl, set, suc}
use Rattle.ss_stream.proofs.Common.{sym, true, zero, ◌+◌, ◌∷◌, ◌<◌, ◌≡◌, ◌≢◌, ◌≤◌, ◌∙◌, ℕ, cases_Bool, cases_eq, cond-false, cond-true, cond_both, not-false}
use Rattle.ss_stream.proofs.Common.{nat_tests, IsPermutation-cons, IsPermutation-trans, max, nat_eq, nat_le, nat_lt, IsTxn, extent_after, slots_fit, SlotMap}
use Rattle.ss_stream.proofs.Common.{StandsFor, changed, MOST_SLOTS, Put, StandsFor-from, StandsFor-same, SameMap-refl, AreKept, RecordsState, shown_by}
use Rattle.ss_stream.proofs.Common.{are_zeros, is_live, live_after, is_valid, Record, IsRecord, occupied, IsPermutation-turn, occupied-freed, LiveSlotsGo}
use Rattle.ss_stream.proofs.Common.{live_slots, pair_put, record_put, zeros_put}
use borrow.Author.Tests.{ltb-true, ltb-false}
use Rattle.ss_codec.specs.declared.record.Record.TheVariants.{Free}
use Rattle.ss_parts.proofs.PutLemmas.{live-IsRecord, occupied-free, occupied-replaced}
use Rattle.ss_stream.proofs.LiveSlots.{AreTwoLive, IsOneLive-permutation, LiveSlotsGo-freed, LiveSlotsGo-taken, live_slots-freed_first, live_slots-kept_first}

-- a put of a record that isn't free
IsRecord-put : (slot : ℕ) (r : Record) → IsTrue (is_valid r) → r ≢ Free → IsRecord (record_put slot r) r
IsRecord-put slot r valid some = record { spelled = record { valid = valid; spelled = refl }; some = some }

-- the map that records show which are kept: its extent is theirs, and a slot that isn't live is zeros
pub extent-kept : (records : RecordsState) (content : List ℕ) (found : SlotMap) → AreKept records content → StandsFor (shown_by records content) found →
    found.extent ≡ records.journal.extent
extent-kept records content found kept is =
    let its = kept.journal.shown.found in
    let image = shown_by records content in
    let same = StandsFor-same image found its is (StandsFor-from image its its kept.journal.shown.map (SameMap-refl its)) in
    same.extent ∙ kept.journal.shown.extent

zeros-kept : (records : RecordsState) (content : List ℕ) (found : SlotMap) (slot : ℕ) → AreKept records content → StandsFor (shown_by records content) found →
    slot < MOST_SLOTS → is_live records.live slot ≡ false → are_zeros (found.bytes slot) ≡ true
zeros-kept records content found slot kept is below free =
    not-false (are_zeros (found.bytes slot)) (sym (kept.free found is slot below) ∙ free)

-- a slot that is live is made live again
set-live : (live : List Bool) (slot : ℕ) → is_live live slot ≡ true → set live slot true ≡ live
set-live [] slot is = refl
set-live (b ∷ bs) zero is = ap (λ (c : Bool). c ∷ bs) (sym is)
set-live (b ∷ bs) (suc slot) is = ap (λ l. b ∷ l) (set-live bs slot is)

module _ (slot : ℕ) (r : Record) (valid : IsTrue (is_valid r)) (some : r ≢ Free) where
  -- a record in a free slot of what records show
  pub moves-added : (records : RecordsState) (content : List ℕ) (others : List (ℕ × Option Record)) → AreKept records content → slot < MOST_SLOTS →
      slot ≤ records.journal.extent → is_live records.live slot ≡ false → (found : SlotMap) → StandsFor (shown_by records content) found →
      IsPermutation others (occupied found) → IsPermutation ((slot, Some r) ∷ others) (occupied (changed found (record_put slot r ∷ [])))
  moves-added records content others kept below within free found is moved =
      let extent = extent-kept records content found kept is in
      let inside : slot ≤ found.extent = omega arith in
      IsPermutation-trans ((slot, Some r) ∷ others) ((slot, Some r) ∷ occupied found) (occupied (changed found (record_put slot r ∷ [])))
      (IsPermutation-cons (slot, Some r) others (occupied found) moved)
      (occupied-free found (record_put slot r) r (IsRecord-put slot r valid some) inside (zeros-kept records content found slot kept is below free))

  -- a record's bytes make its slot live
  live-put : not (are_zeros (record_put slot r).bytes) ≡ true
  live-put = ap not (live-IsRecord (record_put slot r) r (IsRecord-put slot r valid some))

  pub LiveSlotsGo-added : (live : List Bool) → slot < length live → is_live live slot ≡ false →
      LiveSlotsGo [] (slot ∷ []) live (live_after (record_put slot r ∷ []) live)
  LiveSlotsGo-added live below free = rw live-put (LiveSlotsGo-taken live slot below free)

  -- a record in place of that of the slot
  pub moves-replaced : (first : Option Record) (others : List (ℕ × Option Record)) (found : SlotMap) →
      IsPermutation ((slot, first) ∷ others) (occupied found) → IsPermutation ((slot, Some r) ∷ others) (occupied (changed found (record_put slot r ∷ [])))
  moves-replaced first others found moved =
      occupied-replaced found (record_put slot r) first others moved r (IsRecord-put slot r valid some)

  -- the slot stays live
  pub live_after-again : (live : List Bool) → is_live live slot ≡ true → live_after (record_put slot r ∷ []) live ≡ live
  live_after-again live is = ap (λ (b : Bool). set live slot b) live-put ∙ set-live live slot is

-- a put below the extent
module _ (put : Put) where
  pub IsTxn-one : put.slot < MOST_SLOTS → IsTxn (put ∷ [])
  IsTxn-one below =
      let least : nat_le 0 put.slot ≡ true = grind (arith, nat_tests) in
      let within : nat_lt put.slot MOST_SLOTS ≡ true = grind (arith, nat_tests) in
      record { some = omega arith; few = omega arith; rise = rw (least, within) refl }

  pub slots_fit-one : (extent : ℕ) → put.slot < extent → IsTrue (slots_fit (put ∷ []) extent)
  slots_fit-one extent below = let within : nat_le put.slot extent ≡ true = grind (arith, nat_tests) in rw within refl

  pub extent_after-one : (extent : ℕ) → put.slot < extent → extent_after (put ∷ []) extent ≡ extent
  extent_after-one extent below = let other : nat_eq put.slot extent ≡ false = grind (arith, nat_tests) in rw other refl

  -- one at the extent, or below it
  pub extent_after-next : (extent : ℕ) → extent_after (put ∷ []) extent ≤ max extent (put.slot + 1)
  extent_after-next extent =
      cond_both (nat_eq put.slot extent) (extent + 1) extent (λ e. e ≤ max extent (put.slot + 1))
      (λ same. let is : put.slot ≡ extent = grind (arith, nat_tests) in omega arith) (λ other. omega arith)

-- zeros in place of the record of a slot
pub LiveSlotsGo-zeros : (live : List Bool) (slot : ℕ) → LiveSlotsGo (slot ∷ []) [] live (live_after (zeros_put slot ∷ []) live)
LiveSlotsGo-zeros live slot others is = (IsOneLive-permutation live slot others is).others

module _ (kept freed : ℕ) (r : Record) (valid : IsTrue (is_valid r)) (some : r ≢ Free) where
  -- the two orders of the puts
  orders : Bool → List Put
  orders first = cond first (record_put kept r ∷ zeros_put freed ∷ []) (zeros_put freed ∷ record_put kept r ∷ [])

  moves : (first : Bool) (found : SlotMap) (was gone : Option Record) (others : List (ℕ × Option Record)) →
      IsPermutation ((kept, was) ∷ (freed, gone) ∷ others) (occupied found) → IsPermutation ((kept, Some r) ∷ others) (occupied (changed found (orders first)))
  unfolding orders
  moves true found was gone others moved =
      let one = occupied-replaced found (record_put kept r) was ((freed, gone) ∷ others) moved r (IsRecord-put kept r valid some) in
      let mid = changed found (record_put kept r ∷ []) in
      occupied-freed mid (zeros_put freed) gone ((kept, Some r) ∷ others)
      (IsPermutation-trans ((freed, gone) ∷ (kept, Some r) ∷ others) ((kept, Some r) ∷ (freed, gone) ∷ others) (occupied mid)
      (IsPermutation-turn (freed, gone) (kept, Some r) others) one) refl
  moves false found was gone others moved =
      let mid = changed found (zeros_put freed ∷ []) in
      let one = occupied-freed found (zeros_put freed) gone ((kept, was) ∷ others)
      (IsPermutation-trans ((freed, gone) ∷ (kept, was) ∷ others) ((kept, was) ∷ (freed, gone) ∷ others) (occupied found)
      (IsPermutation-turn (freed, gone) (kept, was) others) moved) refl in
      occupied-replaced mid (record_put kept r) was others one r (IsRecord-put kept r valid some)

  -- a record in place of that of one slot, and zeros in another
  pub moves-paired : (found : SlotMap) (was gone : Option Record) (others : List (ℕ × Option Record)) →
      IsPermutation ((kept, was) ∷ (freed, gone) ∷ others) (occupied found) →
      IsPermutation ((kept, Some r) ∷ others) (occupied (changed found (pair_put kept freed r)))
  unfolding orders
  moves-paired found was gone others moved = moves (nat_lt kept freed) found was gone others moved

  live_orders : (first : Bool) (live : List Bool) → AreTwoLive live kept freed → live_slots (live_after (orders first) live) ≡ live_slots (set live freed false)
  unfolding orders
  live_orders true live two = rw live-put (live_slots-kept_first live kept freed two)
  live_orders false live two = rw live-put (live_slots-freed_first live kept freed two)

  pub LiveSlotsGo-paired : (live : List Bool) → AreTwoLive live kept freed →
      LiveSlotsGo (kept ∷ freed ∷ []) (kept ∷ []) live (live_after (pair_put kept freed r) live)
  unfolding orders
  LiveSlotsGo-paired live two others is = rw live_orders (LiveSlotsGo-freed live kept freed two others is)

-- two puts whose slots rise, and that lie below the extent
IsTxn-two : (a b : Put) → a.slot < b.slot → b.slot < MOST_SLOTS → IsTxn (a ∷ b ∷ [])
IsTxn-two a b rise below =
    let least : nat_le 0 a.slot ≡ true = grind (arith, nat_tests) in
    let within : nat_lt a.slot MOST_SLOTS ≡ true = grind (arith, nat_tests) in
    let above : nat_le (a.slot + 1) b.slot ≡ true = grind (arith, nat_tests) in
    let also : nat_lt b.slot MOST_SLOTS ≡ true = grind (arith, nat_tests) in
    record { some = omega arith; few = omega arith; rise = rw (least, within, above, also) refl }

slots_fit-two : (a b : Put) (extent : ℕ) → a.slot < extent → b.slot < extent → IsTrue (slots_fit (a ∷ b ∷ []) extent)
slots_fit-two a b extent first second =
    let other : nat_eq a.slot extent ≡ false = grind (arith, nat_tests) in
    let within : nat_le a.slot extent ≡ true = grind (arith, nat_tests) in
    let also : nat_le b.slot extent ≡ true = grind (arith, nat_tests) in
    rw (within, other, also) refl

extent_after-two : (a b : Put) (extent : ℕ) → a.slot < extent → b.slot < extent → extent_after (a ∷ b ∷ []) extent ≡ extent
extent_after-two a b extent first second =
    let other : nat_eq a.slot extent ≡ false = grind (arith, nat_tests) in
    let also : nat_eq b.slot extent ≡ false = grind (arith, nat_tests) in
    rw (other, also) refl

-- the puts of two slots that are apart
module _ (kept freed : ℕ) (r : Record) where
  pub IsTxn-pair : kept ≢ freed → kept < MOST_SLOTS → freed < MOST_SLOTS → IsTxn (pair_put kept freed r)
  IsTxn-pair apart kept_below freed_below = elim (cases_Bool (nat_lt kept freed)) [
    | inl rise ↦
        rw cond-true (IsTxn-two (record_put kept r) (zeros_put freed) (ltb-true kept freed rise) freed_below)
    | inr fall ↦
        let order : freed ≤ kept = ltb-false kept freed fall in
        let less : freed < kept = elim (cases_eq kept freed) [ inl same ↦ absurd (apart same) | inr other ↦ omega arith ] in
        rw cond-false (IsTxn-two (zeros_put freed) (record_put kept r) less kept_below)
  ]

  pub slots_fit-pair : (extent : ℕ) → kept < extent → freed < extent → IsTrue (slots_fit (pair_put kept freed r) extent)
  slots_fit-pair extent kept_below freed_below =
      cond_both (nat_lt kept freed) (record_put kept r ∷ zeros_put freed ∷ []) (zeros_put freed ∷ record_put kept r ∷ []) (λ l. IsTrue (slots_fit l extent))
      (λ rise. slots_fit-two (record_put kept r) (zeros_put freed) extent kept_below freed_below)
      (λ fall. slots_fit-two (zeros_put freed) (record_put kept r) extent freed_below kept_below)

  pub extent_after-pair : (extent : ℕ) → kept < extent → freed < extent → extent_after (pair_put kept freed r) extent ≡ extent
  extent_after-pair extent kept_below freed_below =
      cond_both (nat_lt kept freed) (record_put kept r ∷ zeros_put freed ∷ []) (zeros_put freed ∷ record_put kept r ∷ []) (λ l. extent_after l extent ≡ extent)
      (λ rise. extent_after-two (record_put kept r) (zeros_put freed) extent kept_below freed_below)
      (λ fall. extent_after-two (zeros_put freed) (record_put kept r) extent freed_below kept_below)
