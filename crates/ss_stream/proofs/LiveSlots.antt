-- The slots that are live, and where they go.
use Rattle.ss_stream.proofs.Common.{Bool, IsPermutation, List, Some, [], append_assoc, ap, ap₂, arith, cond, false, filter, inl, inr, length, not, refl, set}
use Rattle.ss_stream.proofs.Common.{suc, sym, true, zero, ◌+◌, ◌++◌, ◌-◌, ◌∷◌, ◌<◌, ◌≡◌, ◌≢◌, ◌≤◌, ◌∙◌, ℕ, sum_by, AllByRecursion, range_with_len, both_ways}
use Rattle.ss_stream.proofs.Common.{cases_Bool, cases_eq, cond-false, cond-true, eq-eqb, ne_eqb, nat_tests, length-set, filter-append, recursion_from_All}
use Rattle.ss_stream.proofs.Common.{All-permutation, IsPermutation-append_left, IsPermutation-cons, IsPermutation-middle, IsPermutation-sym}
use Rattle.ss_stream.proofs.Common.{IsPermutation-trans}
use Rattle.ss_stream.proofs.Common.{sum_by-cons, is_live, all_weaker, IsPermutation-same, IsPermutation-turn, AreSomeLive, LiveSlotsGo, live_slots}
use Rattle.std.proofs.Common.{nat_eq}
use Rattle.std.proofs.lemmas.Bool.{not-true}
use Rattle.std.proofs.lemmas.List.Quantifiers.{position-Some}
use Rattle.std.proofs.lemmas.List.Elements.{filter_agree, filter_passes}
use Rattle.std.proofs.lemmas.List.Sorted.{sum_by-IsPermutation}
use Rattle.ss_records.specs.Live.{lowest_free}
use Rattle.ss_records.proofs.LiveLemmas.{is_live-below, is_live-set}
use Rattle.ss_parts.proofs.Lists.{range-above, range-below, range_with_len-append}
use Rattle.ss_parts.proofs.Permutations.{IsPermutation-filter}

-- the order of slots says nothing
pub AreSomeLive-permutation : (slots others : List ℕ) (live : List Bool) → IsPermutation slots others → AreSomeLive slots live → AreSomeLive others live
AreSomeLive-permutation slots others live moved some = (
  some.0,
  IsPermutation-trans (others ++ some.0) (slots ++ some.0) (live_slots live)
      (IsPermutation-append_left some.0 others slots (IsPermutation-sym slots others moved)) some.1,
)

-- some of those that are live
pub AreSomeLive-part : (slots others : List ℕ) (live : List Bool) → AreSomeLive (slots ++ others) live → AreSomeLive slots live
AreSomeLive-part slots others live some = (others ++ some.0, rw append_assoc at some.1)

-- what slots became is live
pub AreSomeLive-go : (slots now : List ℕ) (live live_now : List Bool) → AreSomeLive slots live → LiveSlotsGo slots now live live_now → AreSomeLive now live_now
AreSomeLive-go slots now live live_now some go = (some.0, go some.0 some.1)

-- nothing changed
pub LiveSlotsGo-none : (slots : List ℕ) (live : List Bool) → LiveSlotsGo slots slots live live
LiveSlotsGo-none slots live others is = is

-- one change after another
pub LiveSlotsGo-then : (slots mid now : List ℕ) (live live_mid live_now : List Bool) → LiveSlotsGo slots mid live live_mid →
    LiveSlotsGo mid now live_mid live_now →
    LiveSlotsGo slots now live live_now
LiveSlotsGo-then slots mid now live live_mid live_now first second others is = second others (first others is)

-- slots beside those that change
pub LiveSlotsGo-beside : (beside slots now : List ℕ) (live live_now : List Bool) → LiveSlotsGo slots now live live_now →
    LiveSlotsGo (slots ++ beside) (now ++ beside) live live_now
LiveSlotsGo-beside beside slots now live live_now go others is =
    let there = go (beside ++ others) (rw append_assoc at is) in
    rw append_assoc there

-- the order of the slots says nothing
pub LiveSlotsGo-permutation : (slots slots' now now' : List ℕ) (live live_now : List Bool) → IsPermutation slots slots' → IsPermutation now now' →
    LiveSlotsGo slots now live live_now →
    LiveSlotsGo slots' now' live live_now
LiveSlotsGo-permutation slots slots' now now' live live_now moved moved_now go others is =
    let here = go others (IsPermutation-trans (slots ++ others) (slots' ++ others) (live_slots live)
    (IsPermutation-append_left others slots slots' moved) is) in
    IsPermutation-trans (now' ++ others) (now ++ others) (live_slots live_now)
    (IsPermutation-append_left others now' now (IsPermutation-sym now now' moved_now)) here

-- slots that are live alike
live_slots-same : (first second : List Bool) → length first ≡ length second → ((slot : ℕ) → is_live first slot ≡ is_live second slot) →
    live_slots first ≡ live_slots second
live_slots-same first second long same =
    filter_agree (is_live first) (is_live second) same (range_with_len 0 (length first))
    ∙ ap (λ (n : ℕ). filter (is_live second) (range_with_len 0 n)) long

filter-within : (p q : ℕ → Bool) (slots : List ℕ) → AllByRecursion (λ slot. p slot ≡ q slot) slots → filter p slots ≡ filter q slots
filter-within p q [] same = refl
filter-within p q (slot ∷ slots) same = ap₂ (λ (b : Bool) (l : List ℕ). cond b (slot ∷ l) l) same.0 (filter-within p q slots same.1)

-- a slot that was free becomes live
module _ (live : List Bool) (slot : ℕ) (below : slot < length live) where
  front : List ℕ
  front = range_with_len 0 slot

  back : List ℕ
  back = range_with_len (slot + 1) (length live - (slot + 1))

  parts : range_with_len 0 (length live) ≡ front ++ slot ∷ back
  unfolding front back
  parts =
      let first : range_with_len 0 (length live) ≡ range_with_len 0 slot ++ range_with_len slot (length live - slot) =
      range_with_len-append 0 slot (length live - slot) (length live) slot (omega arith) (omega arith) in
      let second : range_with_len slot (length live - slot) ≡ slot ∷ range_with_len (slot + 1) (length live - (slot + 1)) =
      range_with_len-append slot 1 (length live - (slot + 1)) (length live - slot) (slot + 1) (omega arith) refl in
      first ∙ ap (λ (l : List ℕ). range_with_len 0 slot ++ l) second

  taken : List Bool
  taken = set live slot true

  alike : (slots : List ℕ) → AllByRecursion (λ k. nat_eq k slot ≡ false) slots → filter (is_live taken) slots ≡ filter (is_live live) slots
  unfolding taken
  alike slots beside =
      filter-within (is_live (set live slot true)) (is_live live) slots
      (all_weaker (λ k. nat_eq k slot ≡ false) (λ k. is_live (set live slot true) k ≡ is_live live k)
      (λ k other. is_live-set live slot k true below ∙ cond-false (nat_eq k slot) true (is_live live k) other) slots beside)

  apart : (p : ℕ → Bool) → filter p (range_with_len 0 (length live)) ≡ filter p front ++ cond (p slot) (slot ∷ filter p back) (filter p back)
  apart p = ap (filter p) parts ∙ filter-append p front (slot ∷ back)

  pub live_slots-taken : is_live live slot ≡ false → IsPermutation (slot ∷ live_slots live) (live_slots (set live slot true))
  unfolding taken front back
  live_slots-taken free =
      let F = filter (is_live live) front in
      let B = filter (is_live live) back in
      let was : live_slots live ≡ F ++ B = apart (is_live live) ∙ ap (λ (l : List ℕ). F ++ l) (cond-false (is_live live slot) (slot ∷ B) B free) in
      let eq : nat_eq slot slot ≡ true = grind (arith, nat_tests) in
      let here : is_live taken slot ≡ true = is_live-set live slot slot true below ∙ cond-true (nat_eq slot slot) true (is_live live slot) eq in
      let before = alike front (range-below slot 0 slot (omega arith)) in
      let after = alike back (range-above slot (slot + 1) (length live - (slot + 1)) (omega arith)) in
      let now : live_slots taken ≡ F ++ slot ∷ B =
      ap (λ (n : ℕ). filter (is_live taken) (range_with_len 0 n)) (length-set live slot true) ∙ apart (is_live taken)
      ∙ ap₂ (λ (l : List ℕ) (r : List ℕ). l ++ r) before
      (cond-true (is_live taken slot) (slot ∷ filter (is_live taken) back) (filter (is_live taken) back) here ∙ ap (λ (l : List ℕ). slot ∷ l) after) in
      IsPermutation-trans (slot ∷ live_slots live) (slot ∷ (F ++ B)) (live_slots taken)
      (IsPermutation-same (slot ∷ live_slots live) (slot ∷ (F ++ B)) (ap (λ (l : List ℕ). slot ∷ l) was))
      (IsPermutation-trans (slot ∷ (F ++ B)) (F ++ slot ∷ B) (live_slots taken)
      (IsPermutation-sym (F ++ slot ∷ B) (slot ∷ (F ++ B)) (IsPermutation-middle F slot B)) (IsPermutation-same (F ++ slot ∷ B) (live_slots taken) (sym now)))

pub LiveSlotsGo-taken : (live : List Bool) (slot : ℕ) → slot < length live → is_live live slot ≡ false → LiveSlotsGo [] (slot ∷ []) live (set live slot true)
LiveSlotsGo-taken live slot below free others is =
    IsPermutation-trans (slot ∷ others) (slot ∷ live_slots live) (live_slots (set live slot true)) (IsPermutation-cons slot others (live_slots live) is)
    (live_slots-taken live slot below free)

-- 1 at a slot
abbrev is_at : ℕ → ℕ → ℕ
is_at slot k = cond (nat_eq k slot) 1 0

abbrev is_beside : ℕ → ℕ → Bool
is_beside slot k = not (nat_eq k slot)

none-at : (slot : ℕ) (slots : List ℕ) → AllByRecursion (λ k. nat_eq k slot ≡ false) slots → sum_by (is_at slot) slots ≡ 0
none-at slot [] all = refl
none-at slot (k ∷ ks) all =
    let here : is_at slot k ≡ 0 = cond-false (nat_eq k slot) 1 0 all.0 in
    omega (arith, sum_by-cons (is_at slot) k ks, here, none-at slot ks all.1)

all-beside : (slot : ℕ) (slots : List ℕ) → sum_by (is_at slot) slots ≡ 0 → AllByRecursion (λ k. nat_eq k slot ≡ false) slots
all-beside slot [] none = tt
all-beside slot (k ∷ ks) none =
    let parts = sum_by-cons (is_at slot) k ks in
    let here : is_at slot k ≡ 0 = omega arith in
    let rest : sum_by (is_at slot) ks ≡ 0 = omega arith in
    (grind (arith, nat_tests), all-beside slot ks rest)

filter-beside : (slot : ℕ) (slots : List ℕ) → AllByRecursion (λ k. nat_eq k slot ≡ false) slots → filter (is_beside slot) slots ≡ slots
filter-beside slot [] all = refl
filter-beside slot (k ∷ ks) all = rw (all.0, filter-beside slot ks all.1) refl

filter-keeps_beside : (p : ℕ → Bool) (slot : ℕ) (slots : List ℕ) → AllByRecursion (λ k. nat_eq k slot ≡ false) slots →
    AllByRecursion (λ k. nat_eq k slot ≡ false) (filter p slots)
filter-keeps_beside p slot [] all = tt
filter-keeps_beside p slot (k ∷ ks) all =
    elim (p k) as (λ b. AllByRecursion (λ k. nat_eq k slot ≡ false) (cond b (k ∷ filter p ks) (filter p ks))) [
      | true ↦ (all.0, filter-keeps_beside p slot ks all.1)
      | false ↦ filter-keeps_beside p slot ks all.1
    ]

-- a slot stands once in a row, at most
once : (p : ℕ → Bool) (slot a n : ℕ) → sum_by (is_at slot) (filter p (range_with_len a n)) ≤ 1
once p slot a zero = omega arith
once p slot a (suc n) =
    let rest = once p slot (a + 1) n in
    elim (p a) as (λ b. sum_by (is_at slot) (cond b (a ∷ filter p (range_with_len (a + 1) n)) (filter p (range_with_len (a + 1) n))) ≤ 1) [
      | true ↦
          let ks = filter p (range_with_len (a + 1) n) in
          let parts = sum_by-cons (is_at slot) a ks in
          elim (cases_eq a slot) [
            | inl here ↦
                let none = none-at slot ks (filter-keeps_beside p slot (range_with_len (a + 1) n) (range-above slot (a + 1) n (omega arith))) in
                let one : is_at slot a ≡ 1 = cond-true (nat_eq a slot) 1 0 (eq-eqb a slot here) in
                omega arith
            | inr other ↦
                let zero : is_at slot a ≡ 0 = cond-false (nat_eq a slot) 1 0 (ne_eqb a slot other) in
                omega arith
          ]
      | false ↦ rest
    ]

filter-freed : (p q : ℕ → Bool) (slot : ℕ) (slots : List ℕ) → ((k : ℕ) → q k ≡ cond (nat_eq k slot) false (p k)) →
    filter (is_beside slot) (filter p slots) ≡ filter q slots
filter-freed p q slot [] same = refl
filter-freed p q slot (k ∷ ks) same =
    let rest = filter-freed p q slot ks same in
    let at = same k in
    elim (cases_Bool (p k)) [
      | inl passes ↦
          elim (cases_Bool (nat_eq k slot)) [
            | inl here ↦ let off : q k ≡ false = at ∙ cond-true (nat_eq k slot) false (p k) here in rw (passes, here, off) rest
            | inr other ↦ let on : q k ≡ true = at ∙ cond-false (nat_eq k slot) false (p k) other ∙ passes in
                rw (passes, other, on) (ap (λ (l : List ℕ). k ∷ l) rest)
          ]
      | inr fails ↦
          elim (cases_Bool (nat_eq k slot)) [
            | inl here ↦ let off : q k ≡ false = at ∙ cond-true (nat_eq k slot) false (p k) here in rw (fails, off) rest
            | inr other ↦ let off : q k ≡ false = at ∙ cond-false (nat_eq k slot) false (p k) other ∙ fails in rw (fails, off) rest
          ]
    ]

-- one of the slots that are live: the others are those that are live once it is freed
pub record IsOneLive (live : List Bool) (slot : ℕ) (rest : List ℕ) : Type 0 where
  pub below : slot < length live
  pub is : is_live live slot ≡ true
  pub others : IsPermutation rest (live_slots (set live slot false))

pub IsOneLive-permutation : (live : List Bool) (slot : ℕ) (rest : List ℕ) → IsPermutation (slot ∷ rest) (live_slots live) → IsOneLive live slot rest
IsOneLive-permutation live slot rest moved =
    let P : ℕ → Type 0 = λ k. is_live live k ≡ true in
    let range = range_with_len 0 (length live) in
    let is : is_live live slot ≡ true =
    (recursion_from_All P (slot ∷ rest)
    (All-permutation P (live_slots live) (slot ∷ rest) (IsPermutation-sym (slot ∷ rest) (live_slots live) moved) (filter_passes (is_live live) range))).0 in
    let below = is_live-below live slot is in
    let freed = set live slot false in
    let eq : nat_eq slot slot ≡ true = grind (arith, nat_tests) in
    let one : is_at slot slot ≡ 1 = cond-true (nat_eq slot slot) 1 0 eq in
    let none : sum_by (is_at slot) rest ≡ 0 =
    omega (
      arith,
      sum_by-IsPermutation (is_at slot) (slot ∷ rest) (live_slots live) moved,
      sum_by-cons (is_at slot) slot rest,
      one,
      once
          (is_live live) slot 0 (length live),
    ) in
    let left : filter (is_beside slot) (slot ∷ rest) ≡ rest = rw eq (filter-beside slot rest (all-beside slot rest none)) in
    let right : filter (is_beside slot) (live_slots live) ≡ live_slots freed =
    filter-freed (is_live live) (is_live freed) slot range (λ k. is_live-set live slot k false below)
    ∙ ap (λ (n : ℕ). filter (is_live freed) (range_with_len 0 n)) (sym (length-set live slot false)) in
    let kept = IsPermutation-filter (is_beside slot) (slot ∷ rest) (live_slots live) moved in
    record {
      below = below;
      is = is;
      others = rw (right, left) at kept;
    }

-- a slot that is live is made live again
is_live-again : (live : List Bool) (slot k : ℕ) → slot < length live → is_live live slot ≡ true → is_live (set live slot true) k ≡ is_live live k
is_live-again live slot k below is = is_live-set live slot k true below ∙ elim (cases_eq k slot) [
  | inl here ↦ cond-true (nat_eq k slot) true (is_live live k) (eq-eqb k slot here) ∙ sym is ∙ ap (is_live live) (sym here)
  | inr other ↦ cond-false (nat_eq k slot) true (is_live live k) (ne_eqb k slot other)
]

-- Two of the slots that are live.
pub record AreTwoLive (live : List Bool) (kept freed : ℕ) : Type 0 where
  pub kept_below : kept < length live
  pub freed_below : freed < length live
  pub kept_live : is_live live kept ≡ true
  pub freed_live : is_live live freed ≡ true
  pub apart : kept ≢ freed

pub AreTwoLive-some : (live : List Bool) (kept freed : ℕ) → AreSomeLive (kept ∷ freed ∷ []) live → AreTwoLive live kept freed
AreTwoLive-some live kept freed some =
    let first = IsOneLive-permutation live kept (freed ∷ some.0) some.1 in
    let live' = set live kept false in
    let second = IsOneLive-permutation live' freed some.0 first.others in
    let at : is_live live' freed ≡ cond (nat_eq freed kept) false (is_live live freed) = is_live-set live kept freed false first.below in
    let freed_below : freed < length live = omega (arith, second.below, length-set live kept false) in
    elim (cases_eq freed kept) [
      | inl same ↦ absurd (both_ways (is_live live' freed) (at ∙ cond-true (nat_eq freed kept) false (is_live live freed) (eq-eqb freed kept same)) second.is)
      | inr other ↦ record {
        kept_below = first.below;
        freed_below = freed_below;
        kept_live = first.is;
        freed_live = sym (at ∙ cond-false (nat_eq freed kept) false (is_live live freed) (ne_eqb freed kept other)) ∙ second.is;
        apart = λ same. other (sym same);
      }
    ]

-- One of two is made live again and the other is freed, in either order.
module _ (live : List Bool) (kept freed : ℕ) (two : AreTwoLive live kept freed) where
  pub live_slots-kept_first : live_slots (set (set live kept true) freed false) ≡ live_slots (set live freed false)
  live_slots-kept_first =
      let again = set live kept true in
      let long = length-set live kept true in
      live_slots-same (set again freed false) (set live freed false)
      (length-set again freed false ∙ long ∙ sym (length-set live freed false))
      (λ k.
      is_live-set again freed k false (omega (arith, long, two.freed_below))
      ∙ ap (λ (b : Bool). cond (nat_eq k freed) false b) (is_live-again live kept k two.kept_below two.kept_live)
      ∙ sym (is_live-set live freed k false two.freed_below))

  pub live_slots-freed_first : live_slots (set (set live freed false) kept true) ≡ live_slots (set live freed false)
  live_slots-freed_first =
      let live' = set live freed false in
      let long = length-set live freed false in
      let is : is_live live' kept ≡ true =
      is_live-set live freed kept false two.freed_below ∙ cond-false (nat_eq kept freed) false (is_live live kept) (ne_eqb kept freed two.apart) ∙
      two.kept_live in
      live_slots-same (set live' kept true) live' (length-set live' kept true) (λ k. is_live-again live' kept k (omega (arith, long, two.kept_below)) is)

  pub LiveSlotsGo-freed : LiveSlotsGo (kept ∷ freed ∷ []) (kept ∷ []) live (set live freed false)
  LiveSlotsGo-freed others is =
      let turned = IsPermutation-trans (freed ∷ kept ∷ others) (kept ∷ freed ∷ others) (live_slots live) (IsPermutation-turn freed kept others) is in
      (IsOneLive-permutation live freed (kept ∷ others) turned).others

-- the lowest free slot is one that isn't live
pub lowest_free-is_free : (live : List Bool) (slot : ℕ) → lowest_free live ≡ Some slot → (slot < length live) × (is_live live slot ≡ false)
lowest_free-is_free live slot lowest =
    let parts = position-Some not live slot false lowest in
    (parts.0, not-true (is_live live slot) parts.1)
