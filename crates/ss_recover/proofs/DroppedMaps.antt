-- Maps without a record of a dropped stream, and those of a stream that is dropped.
use Rattle.ss_recover.proofs.Common.{[], ◌++◌, ◌+◌, ◌-◌, ◌<◌, ◌||◌, ◌∙◌, ◌∷◌, ◌≡◌, AllByRecursion, ap, ap₂, arith, Bool, carries, changed, cond, cond-false}
use Rattle.ss_recover.proofs.Common.{cond-true, Created, decoded-spelling, decoded-Spells, each-behind, each-front, false, filter_map, filter_map-append}
use Rattle.ss_recover.proofs.Common.{HasWholeSlots, is_none, is_valid-free, IsPermutation, IsRecord, IsTrue, judged, length, length-append, List, list_any}
use Rattle.ss_recover.proofs.Common.{list_any-append, list_any-IsPermutation, lowest_bad_slot, lowest_bad_stream, map, map-append, may_go, nat_eq, nat_lt}
use Rattle.ss_recover.proofs.Common.{nat_tests, None, not, occupied, Option, position_or_len, Put, range_with_len, Record, records_beside, records_in, refl}
use Rattle.ss_recover.proofs.Common.{SlotMap, Some, spelling-free, Stream, stream_number, streams_carried, subst, sym, true, with_put, without_numbered, zeros}
use Rattle.ss_recover.proofs.Common.{ℕ}
use Rattle.ss_codec.specs.Decoded.{decoded}
use Rattle.ss_recover.specs.Carried.{spelled}
use Rattle.ss_recover.specs.Parts.{carried}
use Rattle.ss_recover.proofs.DroppedRecords.{CarryThem, may-goes, may_go-same, is-dropped}
use Rattle.ss_recover.proofs.WholeSlots.{any-filled, zeros_are_free, ZerosAreFree, spells-same}
use Rattle.ss_parts.proofs.WholeMaps.{filled}
use Rattle.ss_recover.proofs.SoundNumbers.{AreSound, AreSound-none_bad, carries-judged}
use Rattle.ss_codec.specs.declared.record.Record.TheVariants as records
use Rattle.ss_parts.proofs.Lists.{all_weaker, range-above, range-below}
use Rattle.ss_parts.proofs.PutLemmas.{back, front, IsAmong, IsAmong-filled, range-at, extent-stays}
use Rattle.ss_parts.proofs.Permutations.{IsPermutation-filter_map}

-- what slots spell, those below one, that one and those above it
abbrev spells : (ℕ → List ℕ) → List ℕ → List (Option Record)
spells bytes slots = map (λ slot. decoded (bytes slot)) slots

spells-at : (bytes : ℕ → List ℕ) (p n : ℕ) (r : Record) → p < n → decoded (bytes p) ≡ Some r →
    spells bytes (range_with_len 0 n) ≡ spells bytes (front p) ++ Some r ∷ spells bytes (back p n)
spells-at bytes p n r below is =
    ap (spells bytes) (range-at p n below) ∙ map-append (λ slot. decoded (bytes slot)) (front p) (p ∷ back p n)
    ∙ ap (λ o. spells bytes (front p) ++ o ∷ spells bytes (back p n)) is

records_in-at : (xs ys : List (Option Record)) (r : Record) → records_in (xs ++ Some r ∷ ys) ≡ records_in xs ++ r ∷ records_in ys
records_in-at xs ys r = filter_map-append (λ o. o) xs (Some r ∷ ys)

-- one record in the place of another leaves the slots that spell none
place-changed : (xs ys : List (Option Record)) (r q : Record) → position_or_len is_none (xs ++ Some r ∷ ys) ≡ position_or_len is_none (xs ++ Some q ∷ ys)
place-changed [] ys r q = refl
place-changed (x ∷ xs) ys r q = ap (λ n. cond (not (is_none x)) (1 + n) 0) (place-changed xs ys r q)

bad_slot-changed : (xs ys : List (Option Record)) (r q : Record) → lowest_bad_slot (xs ++ Some r ∷ ys) ≡ lowest_bad_slot (xs ++ Some q ∷ ys)
bad_slot-changed xs ys r q =
    let place = place-changed xs ys r q in
    let long : length (xs ++ Some r ∷ ys) ≡ length (xs ++ Some q ∷ ys) = length-append xs (Some r ∷ ys) ∙ sym (length-append xs (Some q ∷ ys)) in
    λ i. cond (nat_lt (place i) (long i)) (Some (place i)) None

-- A put in the place of a record.
module _ (found : SlotMap) (put : Put) (r q : Record) (below : put.slot < found.extent) (was : decoded (found.bytes put.slot) ≡ Some r)
    (is : decoded put.bytes ≡ Some q) where
  abbrev xs : List (Option Record)
  xs = spells found.bytes (front put.slot)

  abbrev ys : List (Option Record)
  ys = spells found.bytes (back put.slot found.extent)

  spelled-before : spelled found ≡ xs ++ Some r ∷ ys
  unfolding spelled
  spelled-before = spells-at found.bytes put.slot found.extent r below was

  leaves : (slots : List ℕ) → AllByRecursion (λ slot. nat_eq slot put.slot ≡ false) slots → spells (with_put put found.bytes) slots ≡ spells found.bytes slots
  leaves slots others = spells-same (with_put put found.bytes) found.bytes slots (all_weaker _ _ (λ slot other. cond-false _ _ _ other) slots others)

  spelled-after : spelled (changed found (put ∷ [])) ≡ xs ++ Some q ∷ ys
  unfolding spelled
  spelled-after =
      let same : nat_eq put.slot put.slot ≡ true = grind (arith, nat_tests) in
      let here : decoded (with_put put found.bytes put.slot) ≡ Some q = ap decoded (cond-true _ _ _ same) ∙ is in
      ap (λ n. spells (with_put put found.bytes) (range_with_len 0 n)) (extent-stays put found below)
      ∙ spells-at (with_put put found.bytes) put.slot found.extent q below here
      ∙ ap₂ (λ (a b : List (Option Record)). a ++ Some q ∷ b) (leaves (front put.slot) (range-below put.slot 0 put.slot (omega arith)))
      (leaves (back put.slot found.extent) (range-above put.slot (put.slot + 1) (found.extent - (put.slot + 1)) (omega arith)))

  carried-put : (F : List Stream → List Stream) (streams : List Stream) →
      (AreSound (records_in xs ++ r ∷ records_in ys) (filter_map stream_number (records_in xs ++ r ∷ records_in ys)) →
      CarryThem (records_in xs ++ q ∷ records_in ys) (F (streams_carried (records_in xs ++ r ∷ records_in ys)))) →
      carried found ≡ carries streams → carried (changed found (put ∷ [])) ≡ carries (F streams)
  unfolding carried
  carried-put F streams step carries_them =
      let first : records_in (spelled found) ≡ records_in xs ++ r ∷ records_in ys = ap records_in spelled-before ∙ records_in-at xs ys r in
      let second : records_in (spelled (changed found (put ∷ []))) ≡ records_in xs ++ q ∷ records_in ys = ap records_in spelled-after ∙ records_in-at xs ys q in
      let parts = carries-judged (lowest_bad_slot (spelled found)) (lowest_bad_stream (records_in (spelled found)))
      (streams_carried (records_in (spelled found))) streams carries_them in
      let them = step (subst (λ l. AreSound l (filter_map stream_number l)) first (AreSound-none_bad (records_in (spelled found)) parts.1)) in
      let slot : lowest_bad_slot (spelled (changed found (put ∷ []))) ≡ None =
      ap lowest_bad_slot spelled-after ∙ bad_slot-changed xs ys q r ∙ sym (ap lowest_bad_slot spelled-before) ∙ parts.0 in
      let number : lowest_bad_stream (records_in (spelled (changed found (put ∷ [])))) ≡ None = ap lowest_bad_stream second ∙ them.sound in
      let streams_now : streams_carried (records_in (spelled (changed found (put ∷ [])))) ≡ F streams =
      ap streams_carried second ∙ them.same ∙ ap F (ap streams_carried (sym first) ∙ parts.2) in
      λ i. judged (slot i) (number i) (streams_now i)

-- the records beside one
module _ (found : SlotMap) (p : ℕ) (r : Record) (others : List (ℕ × Option Record)) (whole : HasWholeSlots found)
    (moved : IsPermutation ((p, Some r) ∷ others) (occupied found)) where
  among : IsAmong found.bytes p found.extent (Some r) others
  among = IsAmong-filled found.bytes p found.extent (Some r) others moved

  abbrev below_it : List Record
  below_it = records_in (spells found.bytes (front p))

  abbrev above_it : List Record
  above_it = records_in (spells found.bytes (back p found.extent))

  any-others : (test : Record → Bool) → test records.Free ≡ false → list_any test (records_beside others) ≡ list_any test (below_it ++ above_it)
  any-others test free =
      let first = filled found.bytes (front p) in
      let second = filled found.bytes (back p found.extent) in
      let free_all = subst (AllByRecursion (ZerosAreFree found.bytes)) (range-at p found.extent among.below) (zeros_are_free found whole) in
      let free_back = each-behind (ZerosAreFree found.bytes) (front p) (p ∷ back p found.extent) free_all in
      list_any-IsPermutation test (records_beside others) (records_beside (first ++ second))
      (IsPermutation-filter_map (λ (e : ℕ × Option Record). e.1) others (first ++ second) among.others)
      ∙ ap (list_any test) (filter_map-append (λ (e : ℕ × Option Record). e.1) first second)
      ∙ list_any-append test (records_beside first) (records_beside second) ∙ ap₂ (λ (a b : Bool). a || b)
      (any-filled test free found.bytes (front p) (each-front _ (front p) (p ∷ back p found.extent) free_all))
      (any-filled test free found.bytes (back p found.extent) free_back.1) ∙ sym (list_any-append test below_it above_it)

decoded-cleared : (put : Put) → put.bytes ≡ zeros → decoded put.bytes ≡ Some records.Free
decoded-cleared put is = ap decoded (is ∙ sym spelling-free) ∙ decoded-spelling records.Free is_valid-free

-- a record of a dropped stream may go
pub carried-goes : (found : SlotMap) (put : Put) (streams : List Stream) (gone : Record) (others : List (ℕ × Option Record)) →
    HasWholeSlots found → put.bytes ≡ zeros → carried found ≡ carries streams → IsTrue (may_go gone (records_beside others)) →
    IsPermutation ((put.slot, Some gone) ∷ others) (occupied found) → carried (changed found (put ∷ [])) ≡ carries streams
carried-goes found put streams gone others whole cleared carries_them may moved =
    let xs = below_it found put.slot gone others whole moved in
    let ys = above_it found put.slot gone others whole moved in
    let is = among found put.slot gone others whole moved in
    let same = may_go-same gone (records_beside others) (xs ++ ys) (any-others found put.slot gone others whole moved) in
    carried-put found put gone records.Free is.below (sym is.spells) (decoded-cleared put cleared) (λ ss. ss) streams
    (may-goes xs ys gone (sym same ∙ may)) carries_them

-- a stream is dropped
pub carried-dropped : (found : SlotMap) (put : Put) (streams : List Stream) (s : Created) (others : List (ℕ × Option Record)) →
    HasWholeSlots found → IsRecord put (records.Stream s.number s.name s.params true) → carried found ≡ carries streams →
    IsPermutation ((put.slot, Some (records.Stream s.number s.name s.params false)) ∷ others) (occupied found) →
    carried (changed found (put ∷ [])) ≡ carries (without_numbered s.number streams)
carried-dropped found put streams s others whole is carries_them moved =
    let was = records.Stream s.number s.name s.params false in
    let place = among found put.slot was others whole moved in
    carried-put found put was (records.Stream s.number s.name s.params true) place.below (sym place.spells)
    (decoded-Spells put.bytes (records.Stream s.number s.name s.params true) is.spelled) (without_numbered s.number) streams
    (is-dropped (below_it found put.slot was others whole moved) (above_it found put.slot was others whole moved) s) carries_them
