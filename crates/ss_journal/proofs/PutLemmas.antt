-- What puts make of maps and extents, and which puts fit.
use Rattle.ss_journal.proofs.Common.{IsFalse, IsTrue, List, [], ap, arith, cond, drop, false, get_or, inl, inr, length, map, nat_eq, refl, sym, take}
use Rattle.ss_journal.proofs.Common.{true, ℕ, ⊎_elim, ◌++◌, ◌+◌, ◌<◌, ◌^◌, ◌∙◌, ◌∷◌, ◌≡◌, ◌≤◌, nat_tests, both_ways, cases_Bool, cases_lt, cond-false}
use Rattle.ss_journal.proofs.Common.{cond-true, eq-eqb, false_from_ne_true, ne_eqb, or_cases, or_from, or_parts, All-cons, All-head, All-nil, All-tail}
use Rattle.ss_journal.proofs.Common.{drop_more, take-append-drop, All, AgreeBeside, IsTxn, extent_after, is_put, slots_fit, slots_rise_from, with_put}
use Rattle.ss_journal.proofs.Common.{with_puts, AreSlots, Put}
use Rattle.std.proofs.Common.{if◌then◌else◌}

-- the extent with one more slot
abbrev pub next : ℕ → ℕ → ℕ
next slot extent = if nat_eq slot extent then extent + 1 else extent

pub next-le : (slot extent : ℕ) → extent ≤ next slot extent
next-le slot extent = grind (arith, nat_tests)

-- a greater extent stays greater, where the slot is at most the lesser
pub next-mono : (slot old new : ℕ) → slot ≤ old → old ≤ new → next slot old ≤ next slot new
next-mono slot old new fits le = grind (arith, nat_tests)

-- a slot below the extent adds nothing
pub next-below : (slot extent : ℕ) → slot < extent → next slot extent ≡ extent
next-below slot extent below = grind (arith, nat_tests)

pub lt-next : (slot extent : ℕ) → slot ≤ extent → slot < next slot extent
lt-next slot extent le = grind (arith, nat_tests)

-- the extent stays below a bound of the slots
next-bound : (slot extent most : ℕ) → slot < most → extent ≤ most → next slot extent ≤ most
next-bound slot extent most lt le = grind (arith, nat_tests)

-- puts one after another
pub with_puts-append : (first second : List Put) (map : ℕ → List ℕ) → with_puts (first ++ second) map ≡ with_puts second (with_puts first map)
with_puts-append [] second map = refl
with_puts-append (put ∷ first) second map = with_puts-append first second (with_put put map)

-- where no later put is for the slot, this one counts if it is
module _ (puts : List Put) (k slot : ℕ) (d : Put) (lt : k < length puts) (later : (map : ℕ → List ℕ) → with_puts (drop (k + 1) puts) map slot ≡ map slot) where
  from_here : (map : ℕ → List ℕ) → with_puts (drop k puts) map slot ≡ with_put (get_or puts k d) map slot
  from_here map = rw (drop_more puts k d lt, later (with_put (get_or puts k d) map))

  pub with_puts-newest : slot ≡ (get_or puts k d).slot → (map : ℕ → List ℕ) → with_puts puts map slot ≡ (get_or puts k d).bytes
  with_puts-newest same map =
      ap (λ (list : List Put). with_puts list map slot) (sym (take-append-drop k puts))
      ∙ ap (λ (m : ℕ → List ℕ). m slot) (with_puts-append (take k puts) (drop k puts) map)
      ∙ from_here (with_puts (take k puts) map)
      ∙ cond-true _ _ _ (eq-eqb slot (get_or puts k d).slot same)

  pub with_puts-other : (slot ≡ (get_or puts k d).slot → ⊥) → (map : ℕ → List ℕ) → with_puts (drop k puts) map slot ≡ map slot
  with_puts-other apart map = from_here map ∙ cond-false _ _ _ (ne_eqb slot (get_or puts k d).slot apart)

-- without a put for it, a slot is as in the map before
pub with_puts-beside : (puts : List Put) (map : ℕ → List ℕ) (slot : ℕ) → IsFalse (is_put puts slot) → with_puts puts map slot ≡ map slot
with_puts-beside [] map slot beside = refl
with_puts-beside (put ∷ puts) map slot beside =
    let apart = or_parts (nat_eq slot put.slot) (is_put puts slot) beside in
    with_puts-beside puts (with_put put map) slot apart.1 ∙ cond-false (nat_eq slot put.slot) put.bytes (map slot) apart.0

-- a put for the slot makes the map before count for nothing
pub with_puts-put : (puts : List Put) (slot : ℕ) (first second : ℕ → List ℕ) → IsTrue (is_put puts slot)
    → with_puts puts first slot ≡ with_puts puts second slot
with_puts-put [] slot first second none = absurd (both_ways false refl none)
with_puts-put (put ∷ puts) slot first second is =
    elim (cases_Bool (is_put puts slot)) [
      | inl later ↦ with_puts-put puts slot (with_put put first) (with_put put second) later
      | inr none ↦
          let here = ⊎_elim (λ (same : IsTrue (nat_eq slot put.slot)). same)
          (λ (later : IsTrue (is_put puts slot)). absurd (both_ways (is_put puts slot) none later))
          (or_cases (nat_eq slot put.slot) (is_put puts slot) is) in
          let bytes = λ (map : ℕ → List ℕ). with_puts-beside puts (with_put put map) slot none ∙ cond-true (nat_eq slot put.slot) put.bytes (map slot) here in
          bytes first ∙ sym (bytes second)
    ]

-- so puts that leave every map at the slot have none for it
pub is_put-none : (puts : List Put) (slot : ℕ) → ((map : ℕ → List ℕ) → with_puts puts map slot ≡ map slot) → IsFalse (is_put puts slot)
is_put-none puts slot leaves =
    false_from_ne_true (is_put puts slot) (λ is.
    let same : [] ≡ 0 ∷ [] = sym (leaves (λ n. [])) ∙ with_puts-put puts slot (λ n. []) (λ n. 0 ∷ []) is ∙ leaves (λ n. 0 ∷ []) in
    cc)

-- puts over maps that are alike
pub with_puts-same : (puts : List Put) (old new : ℕ → List ℕ) → ((slot : ℕ) → slot < 2 ^ 20 → new slot ≡ old slot) → (slot : ℕ) → slot < 2 ^ 20
    → with_puts puts new slot ≡ with_puts puts old slot
with_puts-same [] old new same slot lt = same slot lt
with_puts-same (put ∷ puts) old new same slot lt =
    with_puts-same puts (with_put put old) (with_put put new) (λ other below. ap (cond (nat_eq other put.slot) put.bytes) (same other below)) slot lt

-- with one put the maps agree beside the rest
AgreeBeside-put : (put : Put) (puts : List Put) (old new : ℕ → List ℕ) → AgreeBeside (put ∷ puts) old new
    → AgreeBeside puts (with_put put old) (with_put put new)
AgreeBeside-put put puts old new agree slot beside =
    elim (nat_eq slot put.slot) as (λ b. (nat_eq slot put.slot ≡ b) → cond b put.bytes (new slot) ≡ cond b put.bytes (old slot)) [
      | true ↦ λ same. refl
      | false ↦ λ other. agree slot (grind (arith, nat_tests, other, beside))
    ] refl

-- puts give the same map again
pub with_puts-again : (puts : List Put) (old new : ℕ → List ℕ) → AgreeBeside puts old new → (slot : ℕ)
    → with_puts puts new slot ≡ with_puts puts old slot
with_puts-again [] old new agree slot = agree slot refl
with_puts-again (put ∷ puts) old new agree slot = with_puts-again puts (with_put put old) (with_put put new) (AgreeBeside-put put puts old new agree) slot

pub extent_after-append : (first second : List Put) (extent : ℕ)
    → extent_after (first ++ second) extent ≡ extent_after second (extent_after first extent)
extent_after-append [] second extent = refl
extent_after-append (put ∷ first) second extent = extent_after-append first second (next put.slot extent)

pub le-extent_after : (puts : List Put) (extent : ℕ) → extent ≤ extent_after puts extent
le-extent_after [] extent = omega arith
le-extent_after (put ∷ puts) extent =
    let rest = le-extent_after puts (next put.slot extent) in
    omega (arith, next-le put.slot extent, rest)

pub extent_after-bound : (puts : List Put) (extent most : ℕ) → All (λ put. put.slot < most) puts → extent ≤ most → extent_after puts extent ≤ most
extent_after-bound [] extent most below le = le
extent_after-bound (put ∷ puts) extent most below le =
    let P = λ (p : Put). p.slot < most in
    extent_after-bound puts (next put.slot extent) most (All-tail P put puts below) (next-bound put.slot extent most (All-head P put puts below) le)

-- the first put fits, and the rest fits over the extent with it
pub slots_fit-cases : (put : Put) (puts : List Put) (extent : ℕ) → IsTrue (slots_fit (put ∷ puts) extent)
    → (put.slot ≤ extent) × IsTrue (slots_fit puts (next put.slot extent))
slots_fit-cases put puts extent fit = grind (arith, nat_tests, fit)

pub slots_fit-make : (put : Put) (puts : List Put) (extent : ℕ) → put.slot ≤ extent → IsTrue (slots_fit puts (next put.slot extent))
    → IsTrue (slots_fit (put ∷ puts) extent)
slots_fit-make put puts extent first rest = grind (arith, nat_tests)

pub slots_fit-append : (first second : List Put) (extent : ℕ) → IsTrue (slots_fit first extent)
    → IsTrue (slots_fit second (extent_after first extent)) → IsTrue (slots_fit (first ++ second) extent)
slots_fit-append [] second extent fit rest = rest
slots_fit-append (put ∷ first) second extent fit rest =
    let cases = slots_fit-cases put first extent fit in
    slots_fit-make put (first ++ second) extent cases.0 (slots_fit-append first second (next put.slot extent) cases.1 rest)

-- puts that fit an extent fit a greater one
pub slots_fit-again : (puts : List Put) (old new : ℕ) → IsTrue (slots_fit puts old) → old ≤ new → IsTrue (slots_fit puts new)
slots_fit-again [] old new fit le = fit
slots_fit-again (put ∷ puts) old new fit le =
    let cases = slots_fit-cases put puts old fit in
    slots_fit-make put puts new (omega (arith, cases.0, le))
    (slots_fit-again puts (next put.slot old) (next put.slot new) cases.1 (next-mono put.slot old new cases.0 le))

-- the new extent with the slot is still at most the last
next-most : (put : Put) (puts : List Put) (old new : ℕ) → put.slot ≤ old → old ≤ new → new ≤ extent_after puts (next put.slot old)
    → next put.slot new ≤ extent_after puts (next put.slot old)
next-most put puts old new fits le most =
    let least = le-extent_after puts (next put.slot old) in
    elim (cases_lt put.slot new) [
      | inl below ↦ omega (arith, next-below put.slot new below, most)
      | inr from ↦ let same : new ≡ old = omega (arith, from, fits, le) in rw same least
    ]

-- puts that fit give the same extent again over each extent up to it
pub extent_after-again : (puts : List Put) (old new : ℕ) → IsTrue (slots_fit puts old) → old ≤ new → new ≤ extent_after puts old
    → extent_after puts new ≡ extent_after puts old
extent_after-again [] old new fit le most = omega (arith, le, most)
extent_after-again (put ∷ puts) old new fit le most =
    let cases = slots_fit-cases put puts old fit in
    extent_after-again puts (next put.slot old) (next put.slot new) cases.1 (next-mono put.slot old new cases.0 le) (next-most put puts old new cases.0 le most)

-- puts that fit add no less to a greater extent
pub extent_after-mono : (puts : List Put) (old new : ℕ) → IsTrue (slots_fit puts old) → old ≤ new → extent_after puts old ≤ extent_after puts new
extent_after-mono [] old new fit le = le
extent_after-mono (put ∷ puts) old new fit le =
    let cases = slots_fit-cases put puts old fit in
    extent_after-mono puts (next put.slot old) (next put.slot new) cases.1 (next-mono put.slot old new cases.0 le)

-- puts that fit lie below the extent after them
pub slots_fit-below : (puts : List Put) (extent : ℕ) → IsTrue (slots_fit puts extent) → All (λ put. put.slot < extent_after puts extent) puts
slots_fit-below [] extent fit = All-nil (λ (put : Put). put.slot < extent)
slots_fit-below (put ∷ puts) extent fit =
    let cases = slots_fit-cases put puts extent fit in
    let least = le-extent_after puts (next put.slot extent) in
    All-cons (λ (p : Put). p.slot < extent_after puts (next put.slot extent)) put puts
    (omega (arith, lt-next put.slot extent cases.0, least)) (slots_fit-below puts (next put.slot extent) cases.1)

below_next : (own extent slot : ℕ) → slot < next own extent → IsFalse (nat_eq slot own) → slot < extent
below_next own extent slot below apart = grind (arith, nat_tests)

-- a slot below the extent without a put lies in the file
pub below_extent : (puts : List Put) (extent slot : ℕ) → slot < extent_after puts extent → IsFalse (is_put puts slot) → slot < extent
below_extent [] extent slot lt beside = lt
below_extent (put ∷ puts) extent slot lt beside =
    let apart = or_parts (nat_eq slot put.slot) (is_put puts slot) beside in
    let below = below_extent puts (next put.slot extent) slot lt apart.1 in
    below_next put.slot extent slot below apart.0

past_next : (own extent slot : ℕ) → own ≤ extent → next own extent ≤ slot → IsFalse (nat_eq slot own) × (extent ≤ slot)
past_next own extent slot fits past = (grind (arith, nat_tests), grind (arith, nat_tests))

-- a slot from the extent on has no put, and does not lie in the file
pub past_extent : (puts : List Put) (extent slot : ℕ) → IsTrue (slots_fit puts extent) → extent_after puts extent ≤ slot
    → IsFalse (is_put puts slot) × (extent ≤ slot)
past_extent [] extent slot fit past = (refl, past)
past_extent (put ∷ puts) extent slot fit past =
    let cases = slots_fit-cases put puts extent fit in
    let rest = past_extent puts (next put.slot extent) slot cases.1 past in
    let here = past_next put.slot extent slot cases.0 rest.1 in
    (or_from (nat_eq slot put.slot) (is_put puts slot) here.0 rest.0, here.1)

-- slots that rise are numbers of slots
slots_rise-cases : (least : ℕ) (put : Put) (puts : List Put) → IsTrue (slots_rise_from least (put ∷ puts))
    → (put.slot < 2 ^ 20) × IsTrue (slots_rise_from (put.slot + 1) puts)
slots_rise-cases least put puts rise = grind (arith, nat_tests, rise)

pub AreSlots-rise : (least : ℕ) (puts : List Put) → IsTrue (slots_rise_from least puts) → AreSlots puts
AreSlots-rise least [] rise = All-nil (λ (put : Put). put.slot < 2 ^ 20)
AreSlots-rise least (put ∷ puts) rise =
    let cases = slots_rise-cases least put puts rise in
    All-cons (λ (p : Put). p.slot < 2 ^ 20) put puts cases.0 (AreSlots-rise (put.slot + 1) puts cases.1)

pub extent_after-most : (puts : List Put) (extent : ℕ) → IsTxn puts → extent ≤ 2 ^ 20 → extent_after puts extent ≤ 2 ^ 20
extent_after-most puts extent txn le = extent_after-bound puts extent (2 ^ 20) (AreSlots-rise 0 puts txn.rise) le
