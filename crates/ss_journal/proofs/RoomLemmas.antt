-- How many puts wait, beside those that are staged.
use Rattle.ss_journal.proofs.Common.{IsFalse, IsTrue, List, [], arith, false, inl, inr, length, nat_eq, refl, sym, ℕ, ◌+◌, ◌<◌, ◌^◌, ◌∙◌, ◌∷◌, ◌≡◌, ◌≤◌, ◌⊎◌}
use Rattle.ss_journal.proofs.Common.{nat_tests, both_ways, cases_Bool, cases_eq, ne_eqb, or_from, or_parts, All-cons, All-head, All-nil, All-tail}
use Rattle.ss_journal.proofs.Common.{newest_after, with_newest, is_put, slots_rise_from, AreSlots, Put}
use Rattle.ss_journal.proofs.NewestLemmas.{few-with_newest, rise-newest_after, with_newest-cases}

is_put-first : (put : Put) (puts : List Put) (slot : ℕ) → slot ≡ put.slot → IsTrue (is_put (put ∷ puts) slot)
is_put-first put puts slot same = grind (arith, nat_tests, same)

is_put-rest : (put : Put) (puts : List Put) (slot : ℕ) → IsTrue (is_put puts slot) → IsTrue (is_put (put ∷ puts) slot)
is_put-rest put puts slot is = grind (arith, nat_tests, is)

is_put-cases : (put : Put) (puts : List Put) (slot : ℕ) → IsTrue (is_put (put ∷ puts) slot) → (slot ≡ put.slot) ⊎ IsTrue (is_put puts slot)
is_put-cases put puts slot is = elim (cases_eq slot put.slot) [
  | inl same ↦ inl same
  | inr other ↦ inr (grind (arith, nat_tests, is, other))
]

-- what was put stays, and the put is there
pub is_put-held : (put : Put) (held : List Put) (slot : ℕ) → (slot ≡ put.slot) ⊎ IsTrue (is_put held slot) → IsTrue (is_put (with_newest put held) slot)
is_put-held put [] slot (inl same) = is_put-first put [] slot same
is_put-held put [] slot (inr is) = absurd (both_ways false refl is)
is_put-held put (first ∷ rest) slot (inl same) = with_newest-cases (λ puts. IsTrue (is_put puts slot)) put first rest
    (λ _. is_put-first put (first ∷ rest) slot same) (λ _. is_put-first put rest slot same)
    (λ _. is_put-rest first (with_newest put rest) slot (is_put-held put rest slot (inl same)))
is_put-held put (first ∷ rest) slot (inr is) = with_newest-cases (λ puts. IsTrue (is_put puts slot)) put first rest
    (λ _. is_put-rest put (first ∷ rest) slot is)
    (λ same. elim (is_put-cases first rest slot is) [
      | inl own ↦ is_put-first put rest slot (own ∙ sym same)
      | inr later ↦ is_put-rest put rest slot later
    ])
    (λ _. elim (is_put-cases first rest slot is) [
      | inl own ↦ is_put-first first (with_newest put rest) slot own
      | inr later ↦ is_put-rest first (with_newest put rest) slot (is_put-held put rest slot (inr later))
    ])

-- and nothing else
pub is_put-only : (put : Put) (held : List Put) (slot : ℕ) → IsTrue (is_put (with_newest put held) slot) → (slot ≡ put.slot) ⊎ IsTrue (is_put held slot)
is_put-only put [] slot = is_put-cases put [] slot
is_put-only put (first ∷ rest) slot =
    with_newest-cases (λ puts. IsTrue (is_put puts slot) → (slot ≡ put.slot) ⊎ IsTrue (is_put (first ∷ rest) slot)) put first rest
    (λ _. is_put-cases put (first ∷ rest) slot)
    (λ _ is. elim (is_put-cases put rest slot is) [
      | inl own ↦ inl own
      | inr later ↦ inr (is_put-rest first rest slot later)
    ])
    (λ _ is. elim (is_put-cases first (with_newest put rest) slot is) [
      | inl own ↦ inr (is_put-first first rest slot own)
      | inr later ↦ elim (is_put-only put rest slot later) [
        | inl same ↦ inl same
        | inr held ↦ inr (is_put-rest first rest slot held)
      ]
    ])

length-least : (put : Put) (held : List Put) → length held ≤ length (with_newest put held)
length-least put [] = omega arith
length-least put (first ∷ rest) = with_newest-cases (λ puts. length (first ∷ rest) ≤ length puts) put first rest
    (λ _. omega arith) (λ _. omega arith) (λ _. omega (arith, length-least put rest))

-- a slot more where it wasn't put
length-more : (put : Put) (held : List Put) → IsFalse (is_put held put.slot) → length (with_newest put held) ≡ length held + 1
length-more put [] none = refl
length-more put (first ∷ rest) none = with_newest-cases (λ puts. length puts ≡ length (first ∷ rest) + 1) put first rest
    (λ _. omega arith) (λ same. absurd (both_ways (is_put (first ∷ rest) put.slot) none (is_put-first first rest put.slot same)))
    (λ _. omega (arith, length-more put rest (or_parts (nat_eq put.slot first.slot) (is_put rest put.slot) none).1))

rise-first : (least : ℕ) (first : Put) (rest : List Put) → IsTrue (slots_rise_from least (first ∷ rest))
    → (least ≤ first.slot) × IsTrue (slots_rise_from (first.slot + 1) rest)
rise-first least first rest rise = (grind (arith, nat_tests, rise), grind (arith, nat_tests, rise))

-- rising puts have none below
none-below : (least slot : ℕ) (puts : List Put) → IsTrue (slots_rise_from least puts) → slot < least → IsFalse (is_put puts slot)
none-below least slot [] rise below = refl
none-below least slot (first ∷ rest) rise below =
    let parts = rise-first least first rest rise in
    or_from (nat_eq slot first.slot) (is_put rest slot) (ne_eqb slot first.slot (omega (arith, below, parts.0)))
    (none-below (first.slot + 1) slot rest parts.1 (omega (arith, below, parts.0)))

-- and none more where it was
length-same : (least : ℕ) (put : Put) (held : List Put) → IsTrue (slots_rise_from least held) → IsTrue (is_put held put.slot)
    → length (with_newest put held) ≡ length held
length-same least put [] rise is = absurd (both_ways false refl is)
length-same least put (first ∷ rest) rise is =
    let parts = rise-first least first rest rise in
    with_newest-cases (λ puts. length puts ≡ length (first ∷ rest)) put first rest
    (λ below. absurd (both_ways (is_put (first ∷ rest) put.slot)
    (or_from (nat_eq put.slot first.slot) (is_put rest put.slot) (ne_eqb put.slot first.slot (omega (arith, below)))
    (none-below (first.slot + 1) put.slot rest parts.1 (omega (arith, below)))) is))
    (λ _. refl)
    (λ behind. elim (is_put-cases first rest put.slot is) [
      | inl own ↦ absurd (omega (arith, own, behind))
      | inr later ↦ omega (arith, length-same (first.slot + 1) put rest parts.1 later)
    ])

-- what is staged waits
abbrev pub Held : List Put → List Put → Type 0
Held staged waiting = (slot : ℕ) → IsTrue (is_put staged slot) → IsTrue (is_put waiting slot)

held-with : (put : Put) (staged waiting : List Put) → Held staged waiting → Held (with_newest put staged) (with_newest put waiting)
held-with put staged waiting held slot is = elim (is_put-only put staged slot is) [
  | inl same ↦ is_put-held put waiting slot (inl same)
  | inr was ↦ is_put-held put waiting slot (inr (held slot was))
]

-- so a put makes no more wait than it stages
room-with : (put : Put) (staged waiting : List Put) → Held staged waiting → IsTrue (slots_rise_from 0 waiting)
    → length (with_newest put waiting) + length staged ≤ length waiting + length (with_newest put staged)
room-with put staged waiting held rise = elim (cases_Bool (is_put staged put.slot)) [
  | inl is ↦ omega (arith, length-least put staged, length-same 0 put waiting rise (held put.slot is))
  | inr none ↦ omega (arith, length-more put staged none, few-with_newest put waiting)
]

pub held-after : (puts staged waiting : List Put) → Held staged waiting → Held (newest_after puts staged) (newest_after puts waiting)
held-after [] staged waiting held = held
held-after (put ∷ puts) staged waiting held = held-after puts (with_newest put staged) (with_newest put waiting) (held-with put staged waiting held)

pub room-after : (puts staged waiting : List Put) → Held staged waiting → IsTrue (slots_rise_from 0 waiting) → AreSlots puts
    → length (newest_after puts waiting) + length staged ≤ length waiting + length (newest_after puts staged)
room-after [] staged waiting held rise slots = omega arith
room-after (put ∷ puts) staged waiting held rise slots =
    let P = λ (p : Put). p.slot < 2 ^ 20 in
    omega (
      arith,
      room-with put staged waiting held rise,
      room-after puts (with_newest put staged) (with_newest put waiting) (held-with put staged waiting held)
          (rise-newest_after (put ∷ []) waiting rise (All-cons P put [] (All-head P put puts slots) (All-nil P))) (All-tail P put puts slots),
    )
