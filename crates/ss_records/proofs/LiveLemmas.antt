-- Which slots are live, after puts, and the lowest that isn't.
use Rattle.std.proofs.Common.{◌≡◌, ◌∙◌, sym, ap, refl, ℕ, ◌+◌, ◌<◌, ◌≤◌, Bool, true, false, cond, not, nat_eq, List, [], ◌∷◌, length, replicate, get_or, set}
use Rattle.std.proofs.Common.{All, arith, inl, inr, Option, Some, None, IsNone, IfSome, IsTrue, ◌↔◌, ◌⊎◌}
use Rattle.std.proofs.lemmas.Bool.{eq-eqb, eqb-true, ne_eqb, cases_eq, cases_lt, cond-true, cond-false, lt-ltb, le-ltb, leb-true, and_parts, both_ways}
use Rattle.std.proofs.lemmas.Bool.{not-false}
use Rattle.std.proofs.lemmas.List.{get_or-set_same, get_or-set_other, get_or_past, length-set}
use Rattle.std.proofs.lemmas.List.Elements.{All-head, All-tail}
use Rattle.std.proofs.lemmas.List.Sums.{sum_by-cons, count_by-le-length, fails_before_first}
use Rattle.std.specs.List.{position, position_or_len}
use Rattle.ss_journal.specs.declared.put.Put.{Put}
use Rattle.ss_journal.specs.Puts.{with_put, with_puts, extent_after, slots_fit}
use Rattle.ss_records.specs.Live.{are_zeros, is_live, live_count, live_after, AreLiveIn}

-- bytes that are zeros
pub replicate-are_zeros : (bytes : List ℕ) → are_zeros bytes ≡ true → bytes ≡ replicate (length bytes) 0
replicate-are_zeros [] are = refl
replicate-are_zeros (byte ∷ bytes) are =
    let parts = and_parts _ _ are in
    let first : byte ≡ 0 = eqb-true _ _ parts.0 in
    let rest = replicate-are_zeros bytes parts.1 in
    cc

-- whether a slot is live after one is put
pub is_live-set : (live : List Bool) (slot k : ℕ) (is : Bool) → slot < length live → is_live (set live slot is) k ≡ cond (nat_eq k slot) is (is_live live k)
is_live-set live slot k is lt =
    elim (cases_eq k slot) [
      | inl here ↦ ap (λ (n : ℕ). get_or (set live slot is) n false) here ∙ get_or-set_same live slot is false lt
          ∙ sym (cond-true (nat_eq k slot) _ _ (eq-eqb k slot here))
      | inr other ↦ get_or-set_other live slot k is false other ∙ sym (cond-false (nat_eq k slot) _ _ (ne_eqb k slot other))
    ]

-- a live slot lies below the length
pub is_live-below : (live : List Bool) (slot : ℕ) → is_live live slot ≡ true → slot < length live
is_live-below live slot is =
    elim (cases_lt slot (length live)) [
      | inl below ↦ below
      | inr past ↦ absurd (both_ways (is_live live slot) (get_or_past live slot false past) is)
    ]

pub length-live_after : (puts : List Put) (live : List Bool) → length (live_after puts live) ≡ length live
length-live_after [] live = refl
length-live_after (put ∷ puts) live =
    length-live_after puts (set live put.slot (not (are_zeros put.bytes))) ∙ length-set live put.slot (not (are_zeros put.bytes))

-- the live slots are those of the map, after puts into both
pub AreLiveIn-put : (put : Put) (live : List Bool) (map : ℕ → List ℕ) → put.slot < length live → AreLiveIn live map
    → AreLiveIn (set live put.slot (not (are_zeros put.bytes))) (with_put put map)
AreLiveIn-put put live map lt are slot within =
    is_live-set live put.slot slot (not (are_zeros put.bytes)) lt ∙ elim (cases_eq slot put.slot) [
      | inl here ↦ (let t = eq-eqb slot put.slot here in
          cond-true _ _ _ t ∙ sym (ap (λ (bytes : List ℕ). not (are_zeros bytes)) (cond-true _ put.bytes (map slot) t)))
      | inr other ↦ (let f = ne_eqb slot put.slot other in
          cond-false _ _ _ f ∙ are slot within ∙ sym (ap (λ (bytes : List ℕ). not (are_zeros bytes)) (cond-false _ put.bytes (map slot) f)))
    ]

pub AreLiveIn-puts : (puts : List Put) (live : List Bool) (map : ℕ → List ℕ) → All (λ put. put.slot < length live) puts → AreLiveIn live map
    → AreLiveIn (live_after puts live) (with_puts puts map)
AreLiveIn-puts [] live map within are = are
AreLiveIn-puts (put ∷ puts) live map within are =
    let live' = set live put.slot (not (are_zeros put.bytes)) in
    let rest = All-tail (λ (p : Put). p.slot < length live) put puts within in
    AreLiveIn-puts puts live' (with_put put map) (λ k d lt. omega (arith, rest k d lt, length-set live put.slot (not (are_zeros put.bytes))))
    (AreLiveIn-put put live map (All-head (λ (p : Put). p.slot < length live) put puts within) are)

-- a put at the extent moves it on by one
below_next : (put extent slot : ℕ) → put ≤ extent → (slot ≡ put) ⊎ (slot < extent) → slot < cond (nat_eq put extent) (extent + 1) extent
below_next put extent slot fits cases =
    elim (cases_eq put extent) [
      | inl next ↦ rw (eq-eqb put extent next) (elim cases [ inl here ↦ omega (arith, here, fits) | inr before ↦ omega (arith, before) ])
      | inr inside ↦ rw (ne_eqb put extent inside) (elim cases [ inl here ↦ omega (arith, here, fits, inside) | inr before ↦ before ])
    ]

-- each live slot lies below the extent, after puts that fit
pub below-live_after : (puts : List Put) (live : List Bool) (extent : ℕ) → All (λ put. put.slot < length live) puts → IsTrue (slots_fit puts extent)
    → ((slot : ℕ) → is_live live slot ≡ true → slot < extent) → (slot : ℕ) → is_live (live_after puts live) slot ≡ true → slot < extent_after puts extent
below-live_after [] live extent within fit below = below
below-live_after (put ∷ puts) live extent within fit below =
    let is = not (are_zeros put.bytes) in
    let live' = set live put.slot is in
    let next = cond (nat_eq put.slot extent) (extent + 1) extent in
    let parts = and_parts _ _ fit in
    let rest = All-tail (λ (p : Put). p.slot < length live) put puts within in
    let first = All-head (λ (p : Put). p.slot < length live) put puts within in
    below-live_after puts live' next (λ k d lt. omega (arith, rest k d lt, length-set live put.slot is)) parts.1
    (λ slot lives. below_next put.slot extent slot (leb-true _ _ parts.0) (elim (cases_eq slot put.slot) [
      | inl here ↦ inl here
      | inr other ↦ inr (below slot (sym (is_live-set live put.slot slot is first ∙ cond-false (nat_eq slot put.slot) _ _ (ne_eqb slot put.slot other))
          ∙ lives))
    ]))

-- the lowest free slot of as many as the list tells of
pub lowest-le-count : (live : List Bool) → position_or_len not live ≤ live_count live
lowest-le-count [] = omega arith
lowest-le-count (true ∷ live) = let later = lowest-le-count live in omega (arith, later, sum_by-cons (λ (is : Bool). cond is 1 0) true live)
lowest-le-count (false ∷ live) = omega arith

some_free : (live : List Bool) → position_or_len not live < length live → live_count live < length live
some_free [] lt = lt
some_free (true ∷ live) lt =
    let later : live_count live < length live = some_free live (omega (arith, lt)) in omega (arith, later, sum_by-cons (λ (is : Bool). cond is 1 0) true live)
some_free (false ∷ live) lt = omega (arith, count_by-le-length (λ (is : Bool). is) live, sum_by-cons (λ (is : Bool). cond is 1 0) false live)

module _ (live : List Bool) (found : Option ℕ) (is : found ≡ position not live) where
  lowest_cases : ((position_or_len not live < length live) × (found ≡ Some (position_or_len not live)))
      ⊎ ((length live ≤ position_or_len not live) × (found ≡ None))
  lowest_cases =
      elim (cases_lt (position_or_len not live) (length live)) [
        | inl below ↦ inl (below, is ∙ cond-true _ _ _ (lt-ltb (position_or_len not live) (length live) below))
        | inr past ↦ inr (past, is ∙ cond-false _ _ _ (le-ltb (position_or_len not live) (length live) past))
      ]

  -- none is free exactly where all are live
  pub lowest-full : (slots : ℕ) → length live ≡ slots → IsNone found ↔ (live_count live ≡ slots)
  lowest-full slots long = (
    λ none. elim lowest_cases [
      | inl some ↦ absurd (both_ways true (rw some.1 at none) refl)
      | inr full ↦ omega (arith, full.0, long, lowest-le-count live, count_by-le-length (λ (b : Bool). b) live)
    ],
    λ full. elim lowest_cases [
      | inl some ↦ absurd (omega (arith, full, long, some_free live some.0))
      | inr none ↦ rw none.1 refl
    ],
  )

  pub lowest-few : (slots : ℕ) → length live ≡ slots → IfSome found (λ slot. (slot < slots) × (slot ≤ live_count live))
  lowest-few slots long =
      elim lowest_cases [
        | inl some ↦ rw some.1 (omega (arith, some.0, long), lowest-le-count live)
        | inr none ↦ rw none.1 tt
      ]

  pub lowest-fits : (extent : ℕ) → ((slot : ℕ) → is_live live slot ≡ true → slot < extent) → IfSome found (λ slot. slot ≤ extent)
  lowest-fits extent below =
      elim lowest_cases [
        | inl some ↦ rw some.1 (elim (cases_lt extent (position_or_len not live)) [
          | inl past ↦ absurd (omega (arith, below extent (not-false _ (fails_before_first not live extent false past))))
          | inr fits ↦ fits
        ])
        | inr none ↦ rw none.1 tt
      ]
