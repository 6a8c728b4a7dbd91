-- The records of dropped streams among those that were found: they are of no stream that stands, and may go in turn.
use Rattle.ss_recover.proofs.Common.{[], ◌++◌, ◌+◌, ◌<◌, ◌==◌, ◌∙◌, ◌∷◌, ◌≡◌, ◌≤◌, AllByRecursion, and_parts, ap, ap₂, are_zeros, AreSlotsOf, arith, Bool}
use Rattle.ss_recover.proofs.Common.{cases_Bool, cond-true, count_by, Created, created_by, doomed_among, doomed_found, doomed_slots, each-behind, eq-eqb}
use Rattle.ss_recover.proofs.Common.{eqb-true, false, false_from_ne_true, filter, filter-map, filter_map-append, Found, GoInTurn, inl, inr, is_doomed}
use Rattle.ss_recover.proofs.Common.{is_drop_of, is_dropped, is_of, is_own, IsPermutation, IsPermutation-map, IsPermutation-sym, IsPermutation-trans}
use Rattle.ss_recover.proofs.Common.{IsStrictlyIncreasing, List, list_any, list_any-append, list_any-IsPermutation, map, map-append, map-id, map-map}
use Rattle.ss_recover.proofs.Common.{may_go, None, not, not_from_false, occupied, Option, option_map_or, or_cases, or_from, or_left, or_right, range_with_len}
use Rattle.ss_recover.proofs.Common.{Record, records_beside, refl, SlotMap, slots_found, Some, stands_by, Stream, stream_number, stream_of, streams_created}
use Rattle.ss_recover.proofs.Common.{subst, suc, sym, true, true≢false, with_slot, without_slots, zero, ℕ}
use Rattle.ss_recover.proofs.RunStanding.{doomed-same}
use Rattle.ss_recover.specs.Conditions.{is_sound}
use Rattle.ss_recover.proofs.HeldRecords.{all_walked, walked}
use Rattle.ss_recover.proofs.SoundNumbers.{each-false, is_numbered, numbered-cons, one-dropped, one-sound, stands_at}
use Rattle.ss_codec.specs.declared.record.Record.TheVariants as records
use Rattle.ss_codec.specs.Decoded.{decoded}
use Rattle.ss_parts.proofs.Lists.{all-each, all-from_map, all-kept, all-passing, all_both, all_weaker, filter-same, map-all}
use Rattle.ss_parts.proofs.Permutations.{IsPermutation-filter}
use Rattle.ss_recover.proofs.InOrder.{increasing-Rise, Rise, Rise-filter, Rise-increasing, Rises-IsPermutation}
use Rattle.ss_recover.proofs.SoundStreams.{digit}

-- ---- numbers of dropped streams

-- the number of a record is sound
abbrev pub IsSoundOf : List Record → Record → Type 0
IsSoundOf us r = is_sound us (stream_of r) ≡ true

-- a record of a dropped stream doesn't say that the stream stands
abbrev pub IsGone : List Record → Record → Type 0
IsGone us r = is_dropped (stream_of r) us ≡ true → stands_by r ≡ None

pub each-IsGone : (us : List Record) → AllByRecursion (IsSoundOf us) us → AllByRecursion (IsGone us) us
each-IsGone us sound =
    all_both _ _ _ go us sound (each-false us)
  where
    go : (r : Record) → IsSoundOf us r → ((p : Record → Bool) → list_any p us ≡ false → p r ≡ false) → IsGone us r
    go records.Free fine none gone = refl
    go (records.Stream id name params true) fine none gone = refl
    go (records.Stream id name params false) fine none gone =
        let other : (id == id) ≡ false = none (stands_at id) (one-dropped id us (one-sound us id fine) gone) in
        absurd (true≢false (sym (eq-eqb id id refl) ∙ other))
    go _ fine none gone = refl

-- streams that stand weren't dropped
pub standing-kept : (us : List Record) (ss : List Stream) → AllByRecursion (IsGone us) (all_walked ss) →
    AllByRecursion (λ s. is_dropped s.number us ≡ false) ss
standing-kept us [] each = tt
standing-kept us (s ∷ ss) each = (
  false_from_ne_true (is_dropped s.number us) (λ gone. let none = each.0 gone in absurd (cc)),
  standing-kept us ss (each-behind _ (walked s) (all_walked ss) each),
)

-- ---- what is found of them

-- a doomed record is a stream's own or not, and of a dropped stream
pub own-doomed : (us : List Record) (r : Record) → is_doomed true us r ≡ true → is_own r ≡ true
own-doomed us r doomed = (and_parts _ _ doomed).0

pub dropped-doomed : (own : Bool) (us : List Record) (r : Record) → is_doomed own us r ≡ true → is_dropped (stream_of r) us ≡ true
dropped-doomed own us r doomed = go r (and_parts _ _ doomed).1
  where
    go : (r : Record) → option_map_or (λ n. is_dropped n us) (stream_number r) false ≡ true → is_dropped (stream_of r) us ≡ true
    go records.Free gone = absurd (true≢false (sym gone))
    go _ gone = gone

pub beside-found : (all : List Found) → records_beside (map with_slot all) ≡ without_slots all
beside-found [] = refl
beside-found (f ∷ fs) = ap (λ l. f.holds ∷ l) (beside-found fs)

pub first-in_slot : (all : List Found) → map (λ (e : ℕ × Option Record). e.0) (map with_slot all) ≡ slots_found all
first-in_slot [] = refl
first-in_slot (f ∷ fs) = ap (λ l. f.slot ∷ l) (first-in_slot fs)

-- those among the slots that are those of the records
pub doomed_among-found : (own : Bool) (all : List Found) → doomed_among own (map with_slot all) ≡ map with_slot (doomed_found own all)
doomed_among-found own all =
    filter-map (λ (e : ℕ × Option Record). option_map_or (is_doomed own (records_beside (map with_slot all))) e.1 false) with_slot all
    ∙ ap (λ us. map with_slot (filter (λ (f : Found). is_doomed own us f.holds) all)) (beside-found all)

pub without_slots-doomed : (own : Bool) (all : List Found) →
    without_slots (doomed_found own all) ≡ filter (is_doomed own (without_slots all)) (without_slots all)
without_slots-doomed own all = sym (filter-map (is_doomed own (without_slots all)) (λ (f : Found). f.holds) all)

-- in another order they are the same
pub doomed_found-moved : (own : Bool) (all sorted : List Found) → IsPermutation all sorted → IsPermutation (doomed_found own all) (doomed_found own sorted)
doomed_found-moved own all sorted moved =
    subst (λ l. IsPermutation (doomed_found own all) l)
    (filter-same (λ (f : Found). is_doomed own (without_slots all) f.holds) (λ (f : Found). is_doomed own (without_slots sorted) f.holds) sorted
    (all-each (λ (f : Found). is_doomed own (without_slots all) f.holds ≡ is_doomed own (without_slots sorted) f.holds)
    (λ f. doomed-same own (without_slots all) (without_slots sorted) f.holds
    (list_any-IsPermutation (is_drop_of (stream_of f.holds)) (without_slots all) (without_slots sorted)
    (IsPermutation-map (λ (g : Found). g.holds) all sorted moved))) sorted))
    (IsPermutation-filter (λ (f : Found). is_doomed own (without_slots all) f.holds) all sorted moved)

-- ---- the records of dropped streams, in the order in which they are cleared: each may go in turn, and their slots rise

-- ---- in turn

abbrev count : ℕ → List Record → ℕ
count n rs = count_by (is_numbered n) (streams_created rs)

-- streams' own records, of which none is of a number
none-of : (n : ℕ) (rs : List Record) → AllByRecursion (λ r. is_own r ≡ true) rs → count n rs ≡ 0 → list_any (is_of n) rs ≡ false
none-of n [] own none = refl
none-of n (records.Stream id name params dropped ∷ rs) own none =
    let c : Created = record { number = id; name = name; params = params } in
    let sum = numbered-cons n (Some c) (streams_created rs) in
    elim (cases_Bool (id == n)) [
      | inl same ↦ (let one : digit (id == n) ≡ 1 = cond-true _ _ _ same in absurd (omega (arith, sum, one, none)))
      | inr other ↦ or_from _ _ other (none-of n rs own.1 (omega (arith, sum, none)))
    ]
none-of n (_ ∷ rs) own none = absurd (true≢false (sym own.0))

-- of fewer records no more are of a number
count-kept : (n : ℕ) (test : Record → Bool) (rs : List Record) → count n (filter test rs) ≤ count n rs
count-kept n test [] = omega arith
count-kept n test (r ∷ rs) =
    let sum = numbered-cons n (created_by r) (streams_created rs) in
    let also = numbered-cons n (created_by r) (streams_created (filter test rs)) in
    let rest = count-kept n test rs in
    elim (cases_Bool (test r)) [
      | inl passes ↦ rw passes (omega (arith, sum, also, rest))
      | inr fails ↦ rw fails (omega (arith, sum, rest))
    ]

count-less : (n : ℕ) (r : Record) (rs : List Record) → count n (r ∷ rs) ≤ 1 → count n rs ≤ 1
count-less n r rs few = omega (arith, few, numbered-cons n (created_by r) (streams_created rs))

-- no record of a list is of the number of a dropped stream
abbrev pub IsNoneAmong : List Record → Record → Type 0
IsNoneAmong others r = list_any (is_of (stream_of r)) others ≡ false

-- a dropped stream's own record, beside which no other is of its number
record GoesLast (others : List Record) (f : Found) : Type 0 where
  own : is_own f.holds ≡ true
  gone : stands_by f.holds ≡ None
  apart : IsNoneAmong others f.holds

beside-parts : (fs : List Found) (others : List (ℕ × Option Record)) →
    records_beside (map with_slot fs ++ others) ≡ without_slots fs ++ records_beside others
beside-parts fs others = filter_map-append (λ (e : ℕ × Option Record). e.1) (map with_slot fs) others ∙ ap (λ l. l ++ records_beside others) (beside-found fs)

heads-go : (fs : List Found) (others : List (ℕ × Option Record)) → AllByRecursion (GoesLast (records_beside others)) fs →
    AllByRecursion (λ (f : Found). count (stream_of f.holds) (without_slots fs) ≤ 1) fs → GoInTurn (map with_slot fs) others
heads-go [] others last few = tt
heads-go (f ∷ fs) others last few = (
  goes f.holds last.0.own last.0.gone last.0.apart few.0,
  heads-go fs others last.1
      (all_weaker _ _ (λ g le. count-less (stream_of g.holds) f.holds (without_slots fs) le) fs few.1),
)
  where
    owns : AllByRecursion (λ r. is_own r ≡ true) (without_slots fs)
    owns = map-all _ (λ (g : Found). g.holds) fs
        (all_weaker _ _ (λ g is. is.own) fs last.1)

    goes : (r : Record) → is_own r ≡ true → stands_by r ≡ None → IsNoneAmong (records_beside others) r → count (stream_of r) (r ∷ without_slots fs) ≤ 1 →
        may_go r (records_beside (map with_slot fs ++ others)) ≡ true
    goes records.Free own gone apart few = absurd (true≢false (sym own))
    goes (records.Stream id name params false) own gone apart few = absurd (cc)
    goes (records.Stream id name params true) own gone apart few =
        let c : Created = record { number = id; name = name; params = params } in
        let one : digit (id == id) ≡ 1 = cond-true _ _ _ (eq-eqb id id refl) in
        let none : count id (without_slots fs) ≡ 0 = omega (arith, one, few, numbered-cons id (Some c) (streams_created (without_slots fs))) in
        not_from_false (list_any (is_of id) (records_beside (map with_slot fs ++ others)))
        (ap (list_any (is_of id)) (beside-parts fs others) ∙ list_any-append (is_of id) (without_slots fs) (records_beside others)
        ∙ or_from _ _ (none-of id (without_slots fs) owns none) apart)
    goes _ own gone apart few = absurd (true≢false (sym own))

-- those of windows, landmarks and values go before them
others-go : (us : List Record) (fs heads : List Found) (others : List (ℕ × Option Record)) →
    AllByRecursion (λ (f : Found). is_doomed false us f.holds ≡ true) fs → ((n : ℕ) → is_dropped n us ≡ true → is_dropped n (without_slots heads) ≡ true) →
    GoInTurn (map with_slot heads) others → GoInTurn (map with_slot (fs ++ heads)) others
others-go us [] heads others doomed kept last = last
others-go us (f ∷ fs) heads others doomed kept last =
    (goes f.holds doomed.0, others-go us fs heads others doomed.1 kept last)
  where
    gone : (n : ℕ) → is_dropped n us ≡ true → is_dropped n (records_beside (map with_slot (fs ++ heads) ++ others)) ≡ true
    gone n is =
        let test = is_drop_of n in
        ap (list_any test) (beside-parts (fs ++ heads) others) ∙ list_any-append test (without_slots (fs ++ heads)) (records_beside others) ∙ or_left _ _
        (ap (list_any test) (map-append (λ (g : Found). g.holds) fs heads) ∙ list_any-append test (without_slots fs) (without_slots heads)
        ∙ or_right _ _ (kept n is))

    goes : (r : Record) → is_doomed false us r ≡ true → may_go r (records_beside (map with_slot (fs ++ heads) ++ others)) ≡ true
    goes records.Free doomed = absurd (true≢false (sym doomed))
    goes (records.Stream id name params dropped) doomed = absurd (true≢false (sym doomed))
    goes r doomed = gone (stream_of r) (dropped-doomed false us r doomed)

-- what passes one test passes another
any-kept : {X : Type 0} (p q : X → Bool) → ((x : X) → p x ≡ true → q x ≡ true) → (xs : List X) → list_any p xs ≡ true → list_any p (filter q xs) ≡ true
any-kept p q both [] any = any
any-kept p q both (x ∷ xs) any =
    elim (or_cases _ _ any) [
      | inl here ↦ rw (both x here) (or_left _ _ here)
      | inr there ↦
          (let rest = any-kept p q both xs there in
          elim (cases_Bool (q x)) [
            | inl passes ↦ rw passes (or_right _ _ rest)
            | inr fails ↦ rw fails rest
          ])
    ]

-- the records that say that streams were dropped are doomed
drops-doomed : (us : List Record) (n : ℕ) → is_dropped n us ≡ true → (r : Record) → is_drop_of n r ≡ true → is_doomed true us r ≡ true
drops-doomed us n gone records.Free is = absurd (true≢false (sym is))
drops-doomed us n gone (records.Stream id name params dropped) is =
    let parts = and_parts _ _ is in
    subst (λ m. is_dropped m us ≡ true) (sym (eqb-true id n parts.1)) gone
drops-doomed us n gone _ is = absurd (true≢false (sym is))

-- all of them may go in turn
pub doomed-go : (all : List Found) (others : List (ℕ × Option Record)) → AllByRecursion (IsSoundOf (without_slots all)) (without_slots all) →
    AllByRecursion (IsGone (without_slots all)) (without_slots all) →
    ((n : ℕ) → is_dropped n (without_slots all) ≡ true → list_any (is_of n) (records_beside others) ≡ false) →
    GoInTurn (map with_slot (doomed_found false all ++ doomed_found true all)) others
doomed-go all others sound gone apart =
    let us = without_slots all in
    let heads = doomed_found true all in
    let doomed = all-passing (λ (f : Found). is_doomed true us f.holds) all in
    let sound_heads = all-kept (λ (f : Found). IsSoundOf us f.holds) (λ (f : Found). is_doomed true us f.holds) all
    (all-from_map (IsSoundOf us) (λ (f : Found). f.holds) all sound) in
    let gone_heads = all-kept (λ (f : Found). IsGone us f.holds) (λ (f : Found). is_doomed true us f.holds) all
    (all-from_map (IsGone us) (λ (f : Found). f.holds) all gone) in
    let last : AllByRecursion (GoesLast (records_beside others)) heads = all_both _ _ _ (λ f is silent.
    let dropped = dropped-doomed true us f.holds is in
    record { own = own-doomed us f.holds is; gone = silent dropped; apart = apart (stream_of f.holds) dropped }) heads doomed gone_heads in
    let few : AllByRecursion (λ (f : Found). count (stream_of f.holds) (without_slots heads) ≤ 1) heads = all_both _ _ _ (λ f is fine.
    let one = one-sound us (stream_of f.holds) fine in
    let kept = count-kept (stream_of f.holds) (is_doomed true us) us in
    let same : count (stream_of f.holds) (without_slots heads) ≡ count (stream_of f.holds) (filter (is_doomed true us) us) =
    ap (count (stream_of f.holds)) (without_slots-doomed true all) in
    omega (arith, one, kept, same)) heads doomed sound_heads in
    others-go us (doomed_found false all) heads others (all-passing (λ (f : Found). is_doomed false us f.holds) all)
    (λ n is. ap (is_dropped n) (without_slots-doomed true all) ∙ any-kept (is_drop_of n) (is_doomed true us) (drops-doomed us n is) us is)
    (heads-go heads others last few)

-- ---- in the order of the slots

Rise-range : (a n : ℕ) → Rise (λ (s : ℕ). s) (range_with_len a n)
Rise-range a zero = tt
Rise-range a (suc n) = (above a (a + 1) n (omega arith), Rise-range (a + 1) n)
  where
    above : (low a n : ℕ) → low < a → AllByRecursion (λ k. low < k) (range_with_len a n)
    above low a zero lt = tt
    above low a (suc n) lt = (lt, above low (a + 1) n (omega arith))

Rise-map : {X : Type 0} (key : X → ℕ) (xs : List X) → Rise (λ (s : ℕ). s) (map key xs) → Rise key xs
Rise-map key xs rise = Rise-increasing key xs (subst IsStrictlyIncreasing (map-id (map key xs)) (increasing-Rise (λ (s : ℕ). s) (map key xs) rise))

map-Rise : {X : Type 0} (key : X → ℕ) (xs : List X) → Rise key xs → Rise (λ (s : ℕ). s) (map key xs)
map-Rise key xs rise = Rise-increasing (λ (s : ℕ). s) (map key xs) (subst IsStrictlyIncreasing (sym (map-id (map key xs))) (increasing-Rise key xs rise))

-- the slots of what is found rise
pub Rise-found : (all : List Found) (found : SlotMap) → map with_slot all ≡ occupied found → Rise (λ (f : Found). f.slot) all
Rise-found all found is =
    let live = filter (λ slot. not (are_zeros (found.bytes slot))) (range_with_len 0 found.extent) in
    let same : slots_found all ≡ live = sym (first-in_slot all) ∙ ap (map (λ (e : ℕ × Option Record). e.0)) is
    ∙ map-map (λ (e : ℕ × Option Record). e.0) (λ slot. (slot, decoded (found.bytes slot))) live ∙ map-id live in
    Rise-map (λ (f : Found). f.slot) all (subst (Rise (λ (s : ℕ). s)) (sym same)
    (Rise-filter (λ (s : ℕ). s) (λ slot. not (are_zeros (found.bytes slot))) (range_with_len 0 found.extent) (Rise-range 0 found.extent)))

-- sorted slots are in the order of the slots
pub slots-in_order : (own : Bool) (slots : List ℕ) (all sorted : List Found) → AreSlotsOf slots (doomed_found own sorted) → IsPermutation all sorted →
    Rise (λ (f : Found). f.slot) all → slots ≡ slots_found (doomed_found own all)
slots-in_order own slots all sorted are moved rise =
    let here = doomed_found own all in
    let there = doomed_found own sorted in
    Rises-IsPermutation (λ (s : ℕ). s) slots (slots_found here) are.rising (IsPermutation-trans _ _ _
    (IsPermutation-map (λ (f : Found). f.slot) here there (doomed_found-moved own all sorted moved)) (IsPermutation-sym _ _ are.are))
    (map-Rise (λ (f : Found). f.slot) here (Rise-filter (λ (f : Found). f.slot) (λ (f : Found). is_doomed own (without_slots all) f.holds) all rise))

-- and are those that a map has
pub doomed_slots-found : (all : List Found) (found : SlotMap) → map with_slot all ≡ occupied found →
    slots_found (doomed_found false all) ++ slots_found (doomed_found true all) ≡ doomed_slots (occupied found)
doomed_slots-found all found is =
    ap₂ (λ (a b : List ℕ). a ++ b) (one false) (one true) ∙ ap doomed_slots is
  where
    one : (own : Bool) → slots_found (doomed_found own all) ≡ map (λ e. e.0) (doomed_among own (map with_slot all))
    one own = sym (ap (map (λ (e : ℕ × Option Record). e.0)) (doomed_among-found own all) ∙ first-in_slot (doomed_found own all))
