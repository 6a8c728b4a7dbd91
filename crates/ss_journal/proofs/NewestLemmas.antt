-- Puts of which each slot has the newest alone, and puts that do what others do.
use Rattle.ss_journal.proofs.Common.{IsFalse, IsTrue, List, [], ap, arith, cond, drop, false, get_or, inl, inr, length, nat_eq, nat_lt, refl, suc, sym}
use Rattle.ss_journal.proofs.Common.{take, true, zero, ℕ, ◌*◌, ◌++◌, ◌+◌, ◌<◌, ◌^◌, ◌∙◌, ◌∷◌, ◌≡◌, ◌≤◌, nat_tests, cases_lt, cond-false, cond-true, or_from}
use Rattle.ss_journal.proofs.Common.{All-cons, All-drop, All-get_or, All-head, All-nil, All-tail, All-take, All-weaker, drop_all, drop_more, take-append-drop}
use Rattle.ss_journal.proofs.Common.{take_all, All, entry_count, part, DoAs, newest_after, with_newest, FillSlots, IsTxn, extent_after, is_put, slots_fit}
use Rattle.ss_journal.proofs.Common.{slots_rise_from, with_put, with_puts, AreSlots, Put}
use Rattle.std.proofs.Common.{append-nil, append_assoc, length-drop, length-take, set}
use Rattle.std.proofs.Math.Seq.{take-add}
use Rattle.ss_journal.proofs.PutLemmas.{extent_after-append, is_put-none, le-extent_after, lt-next, next, next-below, slots_fit-cases, slots_fit-make}
use Rattle.ss_journal.proofs.PutLemmas.{with_puts-append, with_puts-beside, with_puts-newest}

-- what holds in each place that a put can take
pub with_newest-cases : (P : List Put → Type 0) (put first : Put) (rest : List Put) → (put.slot < first.slot → P (put ∷ first ∷ rest))
    → (put.slot ≡ first.slot → P (put ∷ rest)) → (first.slot < put.slot → P (first ∷ with_newest put rest)) → P (with_newest put (first ∷ rest))
with_newest-cases P put first rest before here behind =
    elim (nat_lt put.slot first.slot) as (λ b. (nat_lt put.slot first.slot ≡ b)
    → P (cond b (put ∷ first ∷ rest) (cond (nat_eq put.slot first.slot) (put ∷ rest) (first ∷ with_newest put rest)))) [
      | true ↦ λ is. before (grind (arith, nat_tests, is))
      | false ↦ λ is.
          elim (nat_eq put.slot first.slot) as (λ b. (nat_eq put.slot first.slot ≡ b) → P (cond b (put ∷ rest) (first ∷ with_newest put rest))) [
            | true ↦ λ same. here (grind (arith, nat_tests, same))
            | false ↦ λ apart. behind (grind (arith, nat_tests, is, apart))
          ] refl
    ] refl

-- puts over maps that are alike at the slot
pub with_puts-at : (puts : List Put) (slot : ℕ) (old new : ℕ → List ℕ) → new slot ≡ old slot → with_puts puts new slot ≡ with_puts puts old slot
with_puts-at [] slot old new same = same
with_puts-at (put ∷ puts) slot old new same =
    with_puts-at puts slot (with_put put old) (with_put put new) (ap (cond (nat_eq slot put.slot) put.bytes) same)

-- the first of rising puts, and the rest
rise-cases : (least : ℕ) (put : Put) (puts : List Put) → IsTrue (slots_rise_from least (put ∷ puts))
    → (least ≤ put.slot) × (put.slot < 2 ^ 20) × IsTrue (slots_rise_from (put.slot + 1) puts)
rise-cases least put puts rise = grind (arith, nat_tests, rise)

rise-make : (least : ℕ) (put : Put) (puts : List Put) → least ≤ put.slot → put.slot < 2 ^ 20 → IsTrue (slots_rise_from (put.slot + 1) puts)
    → IsTrue (slots_rise_from least (put ∷ puts))
rise-make least put puts from below rest = grind (arith, nat_tests)

-- puts that rise from a number on do so from a lesser one on
rise-again : (less least : ℕ) (puts : List Put) → less ≤ least → IsTrue (slots_rise_from least puts) → IsTrue (slots_rise_from less puts)
rise-again less least [] le rise = refl
rise-again less least (put ∷ puts) le rise =
    let cases = rise-cases least put puts rise in
    rise-make less put puts (omega (arith, le, cases.0)) cases.1 cases.2

-- there is none for a slot below the first
rise-beside : (least : ℕ) (puts : List Put) (slot : ℕ) → slot < least → IsTrue (slots_rise_from least puts) → IsFalse (is_put puts slot)
rise-beside least [] slot lt rise = refl
rise-beside least (put ∷ puts) slot lt rise =
    let cases = rise-cases least put puts rise in
    or_from (nat_eq slot put.slot) (is_put puts slot) (grind (arith, nat_tests, cases.0, lt))
    (rise-beside (put.slot + 1) puts slot (omega (arith, cases.0, lt)) cases.2)

-- a put before others, none of which is for its slot, is as one after them
with_put-later : (put : Put) (puts : List Put) → IsFalse (is_put puts put.slot) → (map : ℕ → List ℕ) (slot : ℕ)
    → with_puts puts (with_put put map) slot ≡ with_put put (with_puts puts map) slot
with_put-later put puts beside map slot =
    elim (nat_eq slot put.slot) as (λ b. (nat_eq slot put.slot ≡ b)
    → with_puts puts (with_put put map) slot ≡ cond b put.bytes (with_puts puts map slot)) [
      | true ↦ λ is.
          let same : slot ≡ put.slot = grind (arith, nat_tests, is) in
          with_puts-beside puts (with_put put map) slot (rw same beside)
          ∙ cond-true (nat_eq slot put.slot) put.bytes (map slot) is
      | false ↦ λ is. with_puts-at puts slot map (with_put put map) (cond-false (nat_eq slot put.slot) put.bytes (map slot) is)
    ] refl

-- a put with the same slot makes one before it count for nothing
with_put-twice : (put first : Put) (rest : List Put) → put.slot ≡ first.slot → (map : ℕ → List ℕ) (slot : ℕ)
    → with_put put (with_puts rest map) slot ≡ with_put put (with_puts rest (with_put first map)) slot
with_put-twice put first rest same map slot =
    elim (nat_eq slot put.slot) as (λ b. (nat_eq slot put.slot ≡ b)
    → cond b put.bytes (with_puts rest map slot) ≡ cond b put.bytes (with_puts rest (with_put first map) slot)) [
      | true ↦ λ is. refl
      | false ↦ λ is.
          let apart : nat_eq slot first.slot ≡ false = rw same at is in
          with_puts-at rest slot (with_put first map) map (sym (cond-false (nat_eq slot first.slot) first.bytes (map slot) apart))
    ] refl

-- one more, in its place, is one more after them
with_puts-with_newest : (put : Put) (least : ℕ) (held : List Put) → IsTrue (slots_rise_from least held) → (map : ℕ → List ℕ) (slot : ℕ)
    → with_puts (with_newest put held) map slot ≡ with_put put (with_puts held map) slot
with_puts-with_newest put least [] rise map slot = refl
with_puts-with_newest put least (first ∷ rest) rise map slot =
    let cases = rise-cases least first rest rise in
    with_newest-cases (λ list. with_puts list map slot ≡ with_put put (with_puts (first ∷ rest) map) slot) put first rest
    (λ lt. with_put-later put (first ∷ rest)
    (rise-beside first.slot (first ∷ rest) put.slot lt (rise-make first.slot first rest (omega arith) cases.1 cases.2)) map slot)
    (λ same. with_put-later put rest (rise-beside (first.slot + 1) rest put.slot (omega (arith, same)) cases.2) map slot
    ∙ with_put-twice put first rest same map slot)
    (λ gt. with_puts-with_newest put (first.slot + 1) rest cases.2 (with_put first map) slot)

pub rise-with_newest : (put : Put) (least : ℕ) (held : List Put) → least ≤ put.slot → put.slot < 2 ^ 20 → IsTrue (slots_rise_from least held)
    → IsTrue (slots_rise_from least (with_newest put held))
rise-with_newest put least [] from below rise = rise-make least put [] from below refl
rise-with_newest put least (first ∷ rest) from below rise =
    let cases = rise-cases least first rest rise in
    with_newest-cases (λ list. IsTrue (slots_rise_from least list)) put first rest
    (λ lt. rise-make least put (first ∷ rest) from below (rise-make (put.slot + 1) first rest (omega (arith, lt)) cases.1 cases.2))
    (λ same. rise-make least put rest from below (rw same cases.2))
    (λ gt. rise-make least first (with_newest put rest) cases.0 cases.1 (rise-with_newest put (first.slot + 1) rest (omega (arith, gt)) below cases.2))

-- the newest of each slot do what all do
pub with_puts-newest_after : (puts held : List Put) → IsTrue (slots_rise_from 0 held) → AreSlots puts → (map : ℕ → List ℕ) (slot : ℕ)
    → with_puts (newest_after puts held) map slot ≡ with_puts puts (with_puts held map) slot
with_puts-newest_after [] held rise are map slot = refl
with_puts-newest_after (put ∷ puts) held rise are map slot =
    let P = λ (p : Put). p.slot < 2 ^ 20 in
    with_puts-newest_after puts (with_newest put held) (rise-with_newest put 0 held (omega arith) (All-head P put puts are) rise)
    (All-tail P put puts are) map slot
    ∙ with_puts-at puts slot (with_put put (with_puts held map)) (with_puts (with_newest put held) map) (with_puts-with_newest put 0 held rise map slot)

pub rise-newest_after : (puts held : List Put) → IsTrue (slots_rise_from 0 held) → AreSlots puts → IsTrue (slots_rise_from 0 (newest_after puts held))
rise-newest_after [] held rise are = rise
rise-newest_after (put ∷ puts) held rise are =
    let P = λ (p : Put). p.slot < 2 ^ 20 in
    rise-newest_after puts (with_newest put held) (rise-with_newest put 0 held (omega arith) (All-head P put puts are) rise) (All-tail P put puts are)

-- one more, in its place, fits where it fits after them, and makes the same extent
fit-with_newest : (put : Put) (least : ℕ) (held : List Put) (extent : ℕ) → IsTrue (slots_rise_from least held) → IsTrue (slots_fit held extent)
    → put.slot ≤ extent_after held extent
    → IsTrue (slots_fit (with_newest put held) extent) × (extent_after (with_newest put held) extent ≡ next put.slot (extent_after held extent))
fit-with_newest put least [] extent rise fit le = (slots_fit-make put [] extent le refl, refl)
fit-with_newest put least (first ∷ rest) extent rise fit le =
    let rises = rise-cases least first rest rise in
    let cases = slots_fit-cases first rest extent fit in
    let after = extent_after rest (next first.slot extent) in
    let grows = le-extent_after rest (next first.slot extent) in
    let past = lt-next first.slot extent cases.0 in
    with_newest-cases (λ list. IsTrue (slots_fit list extent) × (extent_after list extent ≡ next put.slot (extent_after (first ∷ rest) extent))) put first rest
    (λ lt.
    let stays : next put.slot extent ≡ extent = next-below put.slot extent (omega (arith, lt, cases.0)) in (
      slots_fit-make put (first ∷ rest) extent (omega (arith, lt, cases.0)) (rw stays fit),
      ap (extent_after (first ∷ rest)) stays ∙ sym (next-below put.slot after (omega (arith, lt, past, grows))),
    ))
    (λ same.
    let alike : next put.slot extent ≡ next first.slot extent = ap (λ (n : ℕ). next n extent) same in (
      slots_fit-make put rest extent (omega (arith, same, cases.0)) (rw alike cases.1),
      ap (extent_after rest) alike ∙ sym (next-below put.slot after (omega (arith, same, past, grows))),
    ))
    (λ gt.
    let later = fit-with_newest put (first.slot + 1) rest (next first.slot extent) rises.2 cases.1 le in
    (slots_fit-make first (with_newest put rest) extent cases.0 later.0, later.1))

pub fit-newest_after : (puts held : List Put) (extent : ℕ) → IsTrue (slots_rise_from 0 held) → AreSlots puts → IsTrue (slots_fit held extent)
    → IsTrue (slots_fit puts (extent_after held extent))
    → IsTrue (slots_fit (newest_after puts held) extent) × (extent_after (newest_after puts held) extent ≡ extent_after puts (extent_after held extent))
fit-newest_after [] held extent rise are held_fit fit = (held_fit, refl)
fit-newest_after (put ∷ puts) held extent rise are held_fit fit =
    let P = λ (p : Put). p.slot < 2 ^ 20 in
    let cases = slots_fit-cases put puts (extent_after held extent) fit in
    let one = fit-with_newest put 0 held extent rise held_fit cases.0 in
    let rest = fit-newest_after puts (with_newest put held) extent (rise-with_newest put 0 held (omega arith) (All-head P put puts are) rise)
    (All-tail P put puts are)
    one.0 (rw one.1 cases.1) in
    (rest.0, rest.1 ∙ ap (extent_after puts) one.1)

All-with_newest : (P : Put → Type 0) (put : Put) (held : List Put) → P put → All P held → All P (with_newest put held)
All-with_newest P put [] is all = All-cons P put [] is all
All-with_newest P put (first ∷ rest) is all =
    let tail = All-tail P first rest all in
    with_newest-cases (All P) put first rest (λ lt. All-cons P put (first ∷ rest) is all) (λ same. All-cons P put rest is tail)
    (λ gt. All-cons P first (with_newest put rest) (All-head P first rest all) (All-with_newest P put rest is tail))

-- what holds of each of the puts holds of each of the newest
pub All-newest_after : (P : Put → Type 0) (puts held : List Put) → All P puts → All P held → All P (newest_after puts held)
All-newest_after P [] held all old = old
All-newest_after P (put ∷ puts) held all old =
    All-newest_after P puts (with_newest put held) (All-tail P put puts all) (All-with_newest P put held (All-head P put puts all) old)

pub few-with_newest : (put : Put) (held : List Put) → length (with_newest put held) ≤ length held + 1
few-with_newest put [] = omega arith
few-with_newest put (first ∷ rest) =
    let later = few-with_newest put rest in
    with_newest-cases (λ list. length list ≤ length (first ∷ rest) + 1) put first rest (λ lt. omega arith) (λ same. omega arith) (λ gt. omega (arith, later))

pub few-newest_after : (puts held : List Put) → length (newest_after puts held) ≤ length held + length puts
few-newest_after [] held = omega arith
few-newest_after (put ∷ puts) held =
    let rest = few-newest_after puts (with_newest put held) in
    omega (arith, rest, few-with_newest put held)

some-with_newest : (put : Put) (held : List Put) → 0 < length (with_newest put held)
some-with_newest put [] = omega arith
some-with_newest put (first ∷ rest) =
    with_newest-cases (λ list. 0 < length list) put first rest (λ lt. omega arith) (λ same. omega arith) (λ gt. omega arith)

some-held : (puts held : List Put) → 0 < length held → 0 < length (newest_after puts held)
some-held [] held some = some
some-held (put ∷ puts) held some = some-held puts (with_newest put held) (some-with_newest put held)

pub some-newest_after : (puts held : List Put) → 0 < length puts → 0 < length (newest_after puts held)
some-newest_after [] held some = absurd (omega (arith, some))
some-newest_after (put ∷ puts) held some = some-held puts (with_newest put held) (some-with_newest put held)

-- none of rising puts is below the least
rise-least : (least : ℕ) (held : List Put) (put : Put) (puts : List Put) → IsTrue (slots_rise_from least (held ++ put ∷ puts)) → least ≤ put.slot
rise-least least [] put puts rise = (rise-cases least put puts rise).0
rise-least least (first ∷ held) put puts rise =
    let cases = rise-cases least first (held ++ put ∷ puts) rise in
    omega (arith, cases.0, rise-least (first.slot + 1) held put puts cases.2)

-- a put above all others comes last
last-with_newest : (least : ℕ) (held : List Put) (put : Put) (puts : List Put) → IsTrue (slots_rise_from least (held ++ put ∷ puts))
    → with_newest put held ≡ held ++ put ∷ []
last-with_newest least [] put puts rise = refl
last-with_newest least (first ∷ held) put puts rise =
    let cases = rise-cases least first (held ++ put ∷ puts) rise in
    let past = rise-least (first.slot + 1) held put puts cases.2 in
    with_newest-cases (λ list. list ≡ first ∷ held ++ put ∷ []) put first held (λ lt. absurd (omega (arith, lt, past)))
    (λ same. absurd (omega (arith, same, past)))
    (λ gt. ap (λ (list : List Put). first ∷ list) (last-with_newest (first.slot + 1) held put puts cases.2))

rising-newest_after : (puts held : List Put) → IsTrue (slots_rise_from 0 (held ++ puts)) → newest_after puts held ≡ held ++ puts
rising-newest_after [] held rise = sym (append-nil held)
rising-newest_after (put ∷ puts) held rise =
    let same : held ++ put ∷ puts ≡ (held ++ put ∷ []) ++ puts = sym (append_assoc held (put ∷ []) puts) in
    rw (last-with_newest 0 held put puts rise, rising-newest_after puts (held ++ put ∷ []) (rw same at rise), ← same)

-- rising puts are their own newest
pub first-newest_after : (puts : List Put) → IsTrue (slots_rise_from 0 puts) → newest_after puts [] ≡ puts
first-newest_after puts rise = rising-newest_after puts [] rise

pub DoAs-none : (extent : ℕ) → DoAs [] extent []
DoAs-none extent = record { bytes = λ map slot. refl; fit = refl; extent = refl; whole = All-nil (λ (put : Put). length put.bytes ≡ 128) }

-- more puts come after all, and into the few
pub DoAs-added : (all puts few : List Put) (extent : ℕ) → IsTrue (slots_rise_from 0 few) → AreSlots puts → FillSlots puts → DoAs all extent few
    → IsTrue (slots_fit puts (extent_after all extent)) → DoAs (all ++ puts) extent (newest_after puts few)
DoAs-added all puts few extent rise are fill does fit =
    let fits = fit-newest_after puts few extent rise are does.fit (rw does.extent fit) in
    record {
      bytes = λ map slot. with_puts-newest_after puts few rise are map slot
          ∙ with_puts-at puts slot (with_puts all map) (with_puts few map) (does.bytes map slot)
          ∙ sym (ap (λ (m : ℕ → List ℕ). m slot) (with_puts-append all puts map));
      fit = fits.0;
      extent = fits.1 ∙ ap (extent_after puts) does.extent ∙ sym (extent_after-append all puts extent);
      whole = All-newest_after (λ (put : Put). length put.bytes ≡ 128) puts few fill does.whole;
    }

-- more puts come after what is staged, of which the newest count alone, and into the few
pub DoAs-staged : (base staged puts few : List Put) (extent : ℕ) → IsTrue (slots_rise_from 0 few) → IsTrue (slots_rise_from 0 staged) → AreSlots puts
    → FillSlots puts → DoAs (base ++ staged) extent few → IsTrue (slots_fit staged (extent_after base extent))
    → IsTrue (slots_fit puts (extent_after (base ++ staged) extent)) → DoAs (base ++ newest_after puts staged) extent (newest_after puts few)
DoAs-staged base staged puts few extent rise staged_rise are fill does staged_fit fit =
    let added = DoAs-added (base ++ staged) puts few extent rise are fill does fit in
    let after = extent_after-append base staged extent in
    let fits = fit-newest_after puts staged (extent_after base extent) staged_rise are staged_fit (rw after at fit) in
    let at = λ (slot : ℕ) (m : ℕ → List ℕ). m slot in
    record {
      bytes = λ map slot. rw (added.bytes map slot, with_puts-append, with_puts-append, ← with_puts-newest_after, ← with_puts-append);
      fit = added.fit;
      extent = rw (added.extent, extent_after-append, after, ← fits.1, ← extent_after-append);
      whole = added.whole;
    }

-- a slot without a put has none among the few
pub beside-DoAs : {all few : List Put} {extent : ℕ} → DoAs all extent few → (slot : ℕ) → IsFalse (is_put all slot) → IsFalse (is_put few slot)
beside-DoAs {all} {few} does slot beside = is_put-none few slot (λ map. does.bytes map slot ∙ with_puts-beside all map slot beside)

-- and the other way round
pub beside-few : {all few : List Put} {extent : ℕ} → DoAs all extent few → (slot : ℕ) → IsFalse (is_put few slot) → IsFalse (is_put all slot)
beside-few {all} {few} does slot beside = is_put-none all slot (λ map. sym (does.bytes map slot) ∙ with_puts-beside few map slot beside)

-- puts that fit do so in two parts
pub slots_fit-parts : (first second : List Put) (extent : ℕ) → IsTrue (slots_fit (first ++ second) extent)
    → IsTrue (slots_fit first extent) × IsTrue (slots_fit second (extent_after first extent))
slots_fit-parts [] second extent fit = (refl, fit)
slots_fit-parts (put ∷ first) second extent fit =
    let cases = slots_fit-cases put (first ++ second) extent fit in
    let rest = slots_fit-parts first second (next put.slot extent) cases.1 in
    (slots_fit-make put first extent cases.0 rest.0, rest.1)

rise-take : (n least : ℕ) (puts : List Put) → IsTrue (slots_rise_from least puts) → IsTrue (slots_rise_from least (take n puts))
rise-take zero least puts rise = refl
rise-take (suc n) least [] rise = refl
rise-take (suc n) least (put ∷ puts) rise =
    let cases = rise-cases least put puts rise in
    rise-make least put (take n puts) cases.0 cases.1 (rise-take n (put.slot + 1) puts cases.2)

rise-drop : (n least : ℕ) (puts : List Put) → IsTrue (slots_rise_from least puts) → IsTrue (slots_rise_from least (drop n puts))
rise-drop zero least puts rise = rise
rise-drop (suc n) least [] rise = refl
rise-drop (suc n) least (put ∷ puts) rise =
    let cases = rise-cases least put puts rise in
    rise-again least (put.slot + 1) (drop n puts) (omega (arith, cases.0)) (rise-drop n (put.slot + 1) puts cases.2)

pub rise-part : (k : ℕ) (puts : List Put) → IsTrue (slots_rise_from 0 puts) → IsTrue (slots_rise_from 0 (part k puts))
rise-part k puts rise = rise-take 4 0 (drop (4 * k) puts) (rise-drop (4 * k) 0 puts rise)

pub txn-part : (k : ℕ) (puts : List Put) → IsTrue (slots_rise_from 0 puts) → 4 * k < length puts → IsTxn (part k puts)
txn-part k puts rise lt =
    let count = length-take 4 (drop (4 * k) puts) in
    let left = length-drop (4 * k) puts in
    record { some = omega (arith, count, left, lt); few = omega (arith, count); rise = rise-part k puts rise }

pub All-part : (P : Put → Type 0) (k : ℕ) (puts : List Put) → All P puts → All P (part k puts)
All-part P k puts all = All-take P 4 (drop (4 * k) puts) (All-drop P (4 * k) puts all)

-- the entries before, and this one
pub take-part : (k : ℕ) (puts : List Put) → take (4 * (k + 1)) puts ≡ take (4 * k) puts ++ part k puts
take-part k puts =
    let more : 4 * (k + 1) ≡ 4 * k + 4 = omega arith in
    rw (more, take-add)

pub entry_count-all : (puts : List Put) → take (4 * entry_count (length puts)) puts ≡ puts
entry_count-all puts = take_all (4 * entry_count (length puts)) puts (omega arith)

pub entry_count-before : (k count : ℕ) → k < entry_count count → 4 * k < count
entry_count-before k count lt = omega (arith, lt)

pub entry_count-some : (count : ℕ) → 0 < count → 0 < entry_count count
entry_count-some count some = omega (arith, some)

pub entry_count-most : (count entries : ℕ) → count ≤ 4 * entries → entry_count count ≤ entries
entry_count-most count entries le = omega (arith, le)

pub entry_count-more : (more count : ℕ) → more ≤ 4 → entry_count (count + more) ≤ entry_count count + 1
entry_count-more more count le = omega (arith, le)

pub entry_count-mono : (less count : ℕ) → less ≤ count → entry_count less ≤ entry_count count
entry_count-mono less count le = omega (arith, le)

-- each of rising puts is from the least on
rise-from : (least : ℕ) (puts : List Put) → IsTrue (slots_rise_from least puts) → All (λ put. least ≤ put.slot) puts
rise-from least [] rise = All-nil (λ (put : Put). least ≤ put.slot)
rise-from least (put ∷ puts) rise =
    let cases = rise-cases least put puts rise in
    All-cons (λ (p : Put). least ≤ p.slot) put puts cases.0
    (All-weaker (λ (p : Put). put.slot + 1 ≤ p.slot) (λ (p : Put). least ≤ p.slot) (λ p le. omega (arith, le, cases.0)) puts
    (rise-from (put.slot + 1) puts cases.2))

-- where one is below a slot, so are those before it
pub below-place : (least : ℕ) (puts : List Put) (k slot : ℕ) (d : Put) → IsTrue (slots_rise_from least puts) → k < length puts → (get_or puts k d).slot < slot
    → All (λ put. put.slot < slot) (take (suc k) puts)
below-place least [] k slot d rise lt below = absurd (omega (arith, lt))
below-place least (put ∷ puts) zero slot d rise lt below = All-cons (λ (p : Put). p.slot < slot) put [] below (All-nil (λ (p : Put). p.slot < slot))
below-place least (put ∷ puts) (suc k) slot d rise lt below =
    let cases = rise-cases least put puts rise in
    let within : k < length puts = omega (arith, lt) in
    let past = All-get_or (λ (p : Put). put.slot + 1 ≤ p.slot) puts k d within (rise-from (put.slot + 1) puts cases.2) in
    All-cons (λ (p : Put). p.slot < slot) put (take (suc k) puts) (omega (arith, past, below)) (below-place (put.slot + 1) puts k slot d cases.2 within below)

-- where one isn't, nor are those after it
pub from-place : (least : ℕ) (puts : List Put) (k slot : ℕ) (d : Put) → IsTrue (slots_rise_from least puts) → k < length puts → slot ≤ (get_or puts k d).slot
    → All (λ put. slot ≤ put.slot) (drop k puts)
from-place least [] k slot d rise lt from = absurd (omega (arith, lt))
from-place least (put ∷ puts) zero slot d rise lt from =
    let cases = rise-cases least put puts rise in
    All-weaker (λ (p : Put). put.slot ≤ p.slot) (λ (p : Put). slot ≤ p.slot) (λ p le. omega (arith, le, from)) (put ∷ puts)
    (rise-from put.slot (put ∷ puts) (rise-make put.slot put puts (omega arith) cases.1 cases.2))
from-place least (put ∷ puts) (suc k) slot d rise lt from =
    from-place (put.slot + 1) puts k slot d (rise-cases least put puts rise).2 (omega (arith, lt)) from

-- a put takes the place of the one for its slot
pub with_newest-set : (put : Put) (held : List Put) (place : ℕ) (d : Put) → place < length held → All (λ before. before.slot < put.slot) (take place held)
    → (get_or held place d).slot ≡ put.slot → set held place put ≡ with_newest put held
with_newest-set put [] place d lt below same = absurd (omega (arith, lt))
with_newest-set put (first ∷ rest) zero d lt below same =
    with_newest-cases (λ list. put ∷ rest ≡ list) put first rest (λ before. absurd (omega (arith, before, same))) (λ here. refl)
    (λ behind. absurd (omega (arith, behind, same)))
with_newest-set put (first ∷ rest) (suc place) d lt below same =
    let P = λ (before : Put). before.slot < put.slot in
    let past = All-head P first (take place rest) below in
    with_newest-cases (λ list. first ∷ set rest place put ≡ list) put first rest (λ before. absurd (omega (arith, before, past)))
    (λ here. absurd (omega (arith, here, past)))
    (λ behind. ap (λ (list : List Put). first ∷ list) (with_newest-set put rest place d (omega (arith, lt)) (All-tail P first (take place rest) below) same))

-- or comes between those below and those above
pub with_newest-insert : (put : Put) (held : List Put) (place : ℕ) (d : Put) → place ≤ length held → All (λ before. before.slot < put.slot) (take place held)
    → All (λ later. put.slot ≤ later.slot) (drop place held) → (place < length held → (get_or held place d).slot ≡ put.slot → ⊥)
    → take place held ++ put ∷ drop place held ≡ with_newest put held
with_newest-insert put [] zero d le below from apart = refl
with_newest-insert put [] (suc place) d le below from apart = absurd (omega (arith, le))
with_newest-insert put (first ∷ rest) zero d le below from apart =
    let least = All-head (λ (later : Put). put.slot ≤ later.slot) first rest from in
    with_newest-cases (λ list. put ∷ first ∷ rest ≡ list) put first rest (λ before. refl) (λ here. absurd (apart (omega arith) (sym here)))
    (λ behind. absurd (omega (arith, behind, least)))
with_newest-insert put (first ∷ rest) (suc place) d le below from apart =
    let P = λ (before : Put). before.slot < put.slot in
    let past = All-head P first (take place rest) below in
    with_newest-cases (λ list. first ∷ take place rest ++ put ∷ drop place rest ≡ list) put first rest (λ before. absurd (omega (arith, before, past)))
    (λ here. absurd (omega (arith, here, past)))
    (λ behind. ap (λ (list : List Put). first ∷ list)
    (with_newest-insert put rest place d (omega (arith, le)) (All-tail P first (take place rest) below) from (λ lt same. apart (omega (arith, lt)) same)))

-- from a place on, rising puts rise from the one there on
rise-place : (puts : List Put) (k : ℕ) (d : Put) → IsTrue (slots_rise_from 0 puts) → k < length puts
    → IsTrue (slots_rise_from (get_or puts k d).slot (drop k puts)) × IsTrue (slots_rise_from ((get_or puts k d).slot + 1) (drop (k + 1) puts))
rise-place puts k d rise lt =
    let put = get_or puts k d in
    let rest = drop (k + 1) puts in
    let split = drop_more puts k d lt in
    let cases = rise-cases 0 put rest (rw split at (rise-drop k 0 puts rise)) in (
      rw split (rise-make put.slot put rest (omega arith) cases.1 cases.2),
      cases.2,
    )

-- the put for a slot counts
pub found-place : (puts : List Put) (k slot : ℕ) (d : Put) → IsTrue (slots_rise_from 0 puts) → k < length puts → (get_or puts k d).slot ≡ slot
    → (map : ℕ → List ℕ) → with_puts puts map slot ≡ (get_or puts k d).bytes
found-place puts k slot d rise lt same map =
    let past = (rise-place puts k d rise lt).1 in
    with_puts-newest puts k slot d lt
    (λ m. with_puts-beside (drop (k + 1) puts) m slot
    (rise-beside ((get_or puts k d).slot + 1) (drop (k + 1) puts) slot (omega (arith, same)) past)) (sym same) map

beside-below : (puts : List Put) (slot : ℕ) → All (λ put. put.slot < slot) puts → IsFalse (is_put puts slot)
beside-below [] slot below = refl
beside-below (put ∷ puts) slot below =
    let P = λ (p : Put). p.slot < slot in
    let first = All-head P put puts below in
    or_from (nat_eq slot put.slot) (is_put puts slot) (grind (arith, nat_tests, first)) (beside-below puts slot (All-tail P put puts below))

-- without one in its place, there is none
pub no-place : (puts : List Put) (k slot : ℕ) (d : Put) → IsTrue (slots_rise_from 0 puts) → All (λ put. put.slot < slot) (take k puts)
    → All (λ put. slot ≤ put.slot) (drop k puts) → (k < length puts → (get_or puts k d).slot ≡ slot → ⊥)
    → (map : ℕ → List ℕ) → with_puts puts map slot ≡ map slot
no-place puts k slot d rise below from apart map =
    let beside : IsFalse (is_put (drop k puts) slot) = elim (cases_lt k (length puts)) [
      | inl lt ↦
          let least = All-head (λ (put : Put). slot ≤ put.slot) (get_or puts k d) (drop (k + 1) puts)
          (rw (drop_more puts k d lt) at from) in
          let other = apart lt in
          rise-beside (get_or puts k d).slot (drop k puts) slot (omega (arith, least, other)) (rise-place puts k d rise lt).0
      | inr past ↦ rw drop_all
    ] in
    rw (← take-append-drop k puts, with_puts-append (take k puts) (drop k puts) map, with_puts-beside (drop k puts) (with_puts (take k puts) map) slot beside)
    (rw (with_puts-beside (take k puts) map slot (beside-below (take k puts) slot below)))
