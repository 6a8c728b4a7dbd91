-- The slots of a page: read from a file, written over, cleared, and taken out of the form of the file.
use Rattle.ss_journal.proofs.Common.{List, [], ap, arith, cond, drop, get_or, inl, inr, length, nat_eq, replicate, sym, take, ℕ, ◌++◌, ◌*◌, ◌+◌, ◌-◌, ◌<◌}
use Rattle.ss_journal.proofs.Common.{◌∙◌, ◌∷◌, ◌≡◌, ◌≢◌, ◌≤◌, Bool, false, refl, suc, true, zero, range_with_len, set, cases_Bool, cases_eq, cases_order}
use Rattle.ss_journal.proofs.Common.{cond-false, cond-true, drop-drop, drop-replicate, drop-take, drop_at, ext_get_or, get_or-drop, get_or-take, length-drop}
use Rattle.ss_journal.proofs.Common.{length-replicate, length-take, length-take-le, take-replicate, take_all, take_more, IsReadFrom, slot_in_page, slot_form}
use Rattle.ss_journal.proofs.Common.{slot_at, slot_place, slots_in, slot_said, with_put, with_puts, zeros, Kind, Put}
use Rattle.std.specs.List.{flat_map}
use Rattle.std.proofs.Math.Seq.{drop-append-add}
use Rattle.std.proofs.lemmas.List.{drop-append-le, get_or-set_other, get_or-set_same, take-append-le}
use Rattle.std.proofs.lemmas.Slice.{drop-put_mid, take-put_mid_below}
use borrow.Rule.Slice.PartMut.{post_of, put_mid}
use Rattle.ss_journal.specs.Page.{page_said}
use Rattle.ss_journal.proofs.CheckLemmas.{length-slot_form}
use Rattle.ss_journal.proofs.MapLemmas.{slot_within}
use Rattle.ss_journal.proofs.PutLemmas.{with_puts-append}

-- each slot of a page of zeros is zeros
pub slot_in_page-zeros : (k : ℕ) → k < 32 → slot_in_page (replicate 4096 0) k ≡ zeros
slot_in_page-zeros k lt =
    ap (take 128) (drop-replicate (128 * k) 4096 0) ∙ take-replicate 128 (4096 - 128 * k) 0 (omega (arith, lt))

-- a slot that lies in the file is read whole
pub slot_in_page-read : (content bytes : List ℕ) (page k : ℕ) → length bytes ≡ 4096 → k < 32 → 32 * page + k < slots_in (length content)
    → IsReadFrom content (slot_place (32 * page)) bytes → slot_in_page bytes k ≡ slot_at content (32 * page + k)
slot_in_page-read content bytes page k long lt lies read =
    let at = slot_place (32 * page + k) in
    let inside = slot_within (length content) (32 * page + k) lies in
    ext_get_or 0 (slot_in_page bytes k) (slot_at content (32 * page + k))
    (omega (
      arith,
      long,
      lt,
      inside,
      length-take 128 (drop (128 * k) bytes),
      length-take 128 (drop at content),
      length-drop (128 * k) bytes,
      length-drop at content,
    ))
    (λ i below. let within : i < 128 = omega (arith, below, length-take 128 (drop (128 * k) bytes)) in
    let place : slot_place (32 * page) + (128 * k + i) ≡ at + i = omega arith in
    get_or-take 128 (drop (128 * k) bytes) i 0 within ∙ get_or-drop (128 * k) bytes i 0 ∙ read (128 * k + i) (omega (arith, long, lt, within))
    ∙ ap (λ (p : ℕ). get_or content p 0) place ∙ sym (get_or-drop at content i 0) ∙ sym (get_or-take 128 (drop at content) i 0 within))

-- a part of a page is written
module _ (old part : List ℕ) (at count : ℕ) (long : length old ≡ 4096) (fits : at + count ≤ 4096) (whole : length part ≡ count) where
  front : length (take at old) ≡ at
  front = length-take-le at old (omega (arith, long, fits))

  -- slots before it
  slot_in_page-before : (k : ℕ) → 128 * k + 128 ≤ at → slot_in_page (put_mid at count old part) k ≡ slot_in_page old k
  slot_in_page-before k before =
      sym (drop-take (128 * k) 128 (put_mid at count old part))
      ∙ ap (drop (128 * k)) (take-put_mid_below at count old part (128 * k + 128) before (omega (arith, long, fits)))
      ∙ drop-take (128 * k) 128 old

  -- slots after it
  slot_in_page-after : (k : ℕ) → at + count ≤ 128 * k → slot_in_page (put_mid at count old part) k ≡ slot_in_page old k
  slot_in_page-after k after = ap (take 128) (drop-put_mid at count old part (128 * k) after (omega (arith, long, fits)) whole)

  -- a slot within it
  slot_in_page-within : (k m : ℕ) → 128 * k ≡ at + m → m + 128 ≤ count → slot_in_page (put_mid at count old part) k ≡ take 128 (drop m part)
  slot_in_page-within k m place within =
      ap (λ (n : ℕ). take 128 (drop n (put_mid at count old part))) place
      ∙ ap (take 128) (sym (drop-drop m at (put_mid at count old part)))
      ∙ ap (λ (list : List ℕ). take 128 (drop m list)) (drop_at (take at old) (part ++ post_of at count old) at front)
      ∙ ap (take 128) (drop-append-le m part (post_of at count old) (omega (arith, whole, within)))
      ∙ take-append-le 128 (drop m part) (post_of at count old) (omega (arith, whole, within, length-drop m part))

-- a slot is written
module _ (old slot bytes : List ℕ) (n count : ℕ) (long : length old ≡ 4096) (lt : n < 32) (size : count ≡ 128) (whole : length slot ≡ count)
    (same : slot ≡ bytes) where
  pub slot_in_page-same : slot_in_page (put_mid (128 * n) count old slot) n ≡ bytes
  slot_in_page-same = slot_in_page-within old slot (128 * n) count long (omega (arith, lt, size)) whole n 0 (omega arith) (omega (arith, size))
      ∙ take_all 128 slot (omega (arith, whole, size)) ∙ same

  pub slot_in_page-other : (k : ℕ) → k ≢ n → slot_in_page (put_mid (128 * n) count old slot) k ≡ slot_in_page old k
  slot_in_page-other k apart = elim (cases_order k n) [
    | inl is ↦ absurd (apart is)
    | inr sides ↦ elim sides [
      | inl below ↦ slot_in_page-before old slot (128 * n) count long (omega (arith, lt, size)) whole k (omega (arith, below))
      | inr above ↦ slot_in_page-after old slot (128 * n) count long (omega (arith, lt, size)) whole k (omega (arith, above, size))
    ]
  ]

-- the slots from number `used` on are cleared
module _ (old part : List ℕ) (used n : ℕ) (long : length old ≡ 4096) (most : used ≤ 32) (cleared : part ≡ replicate n 0)
    (whole : length part ≡ 4096 - 128 * used) where
  pub slot_in_page-kept : (k : ℕ) → k < used → slot_in_page (put_mid (128 * used) (4096 - 128 * used) old part) k ≡ slot_in_page old k
  slot_in_page-kept k below =
      slot_in_page-before old part (128 * used) (4096 - 128 * used) long (omega (arith, most)) whole k (omega (arith, below))

  pub slot_in_page-cleared : (k : ℕ) → used ≤ k → k < 32 → slot_in_page (put_mid (128 * used) (4096 - 128 * used) old part) k ≡ zeros
  slot_in_page-cleared k from lt =
      let m = 128 * k - 128 * used in
      let size : n ≡ 4096 - 128 * used = sym (length-replicate {A = ℕ} n 0) ∙ sym (ap length cleared) ∙ whole in
      slot_in_page-within old part (128 * used) (4096 - 128 * used) long (omega (arith, most)) whole k m (omega (arith, from)) (omega (arith, from, lt))
      ∙ ap (λ (list : List ℕ). take 128 (drop m list)) cleared
      ∙ ap (take 128) (drop-replicate m n 0) ∙ take-replicate 128 (n - m) 0 (omega (arith, size, from, lt))

-- one put more
pub laid_more : (puts : List Put) (n slot : ℕ) (d : Put) (old mid got : List ℕ) → n < length puts → mid ≡ with_puts (take n puts) (λ _. old) slot
    → got ≡ with_put (get_or puts n d) (λ _. mid) slot → got ≡ with_puts (take (n + 1) puts) (λ _. old) slot
laid_more puts n slot d old mid got lt before more =
    let put = get_or puts n d in
    more ∙ ap (cond (nat_eq slot put.slot) put.bytes) before
    ∙ sym (ap (λ (list : List Put). with_puts list (λ _. old) slot) (take_more puts n d lt)
    ∙ ap (λ (m : ℕ → List ℕ). m slot) (with_puts-append (take n puts) (put ∷ []) (λ _. old)))

-- slots one after the other, of which a page has one for each number
slot_in_page-row : (f : ℕ → List ℕ) (a n k m : ℕ) → m ≡ a + k → k < n → ((j : ℕ) → a ≤ j → j < a + n → length (f j) ≡ 128)
    → slot_in_page (flat_map f (range_with_len a n)) k ≡ f m
slot_in_page-row f a zero k m is lt long = absurd (omega (arith, lt))
slot_in_page-row f a (suc n) zero m is lt long =
    let size = long a (omega arith) (omega arith) in
    take-append-le 128 (f a) (flat_map f (range_with_len (a + 1) n)) (omega (arith, size))
    ∙ take_all 128 (f a) (omega (arith, size)) ∙ ap f (omega (arith, is))
slot_in_page-row f a (suc n) (suc k) m is lt long =
    let rest = flat_map f (range_with_len (a + 1) n) in
    let place : 128 * suc k ≡ length (f a) + 128 * k = omega (arith, long a (omega arith) (omega arith)) in
    rw (place, drop-append-add (f a) rest (128 * k))
    (rw (slot_in_page-row f (a + 1) n k m (omega (arith, is)) (omega (arith, lt)) (λ j from below. long j (omega (arith, from)) (omega (arith, below)))))

-- and pages of the same slots are the same
same_slots : (f g : ℕ → List ℕ) (a n : ℕ) → ((j : ℕ) → a ≤ j → j < a + n → f j ≡ g j)
    → flat_map f (range_with_len a n) ≡ flat_map g (range_with_len a n)
same_slots f g a zero same = refl
same_slots f g a (suc n) same =
    rw (same a (omega arith) (omega arith), same_slots f g (a + 1) n (λ j from below. same j (omega (arith, from)) (omega (arith, below))))

-- what a page says, of which each slot is in the form of the file or was taken out of it
module _ (kind : Kind) (number : ℕ) (formed : List Bool) (bytes : List ℕ) (k : ℕ) where
  pub slot_said-formed : get_or formed k false ≡ true → slot_said kind number formed bytes k ≡ slot_in_page bytes k
  slot_said-formed is = cond-true (get_or formed k false) _ _ is

  pub slot_said-unformed : get_or formed k false ≡ false → slot_said kind number formed bytes k ≡ slot_form kind (32 * number + k) (slot_in_page bytes k)
  slot_said-unformed is = cond-false (get_or formed k false) _ _ is

  module _ (long : length bytes ≡ 4096) (lt : k < 32) where
    length-slot_said : length (slot_said kind number formed bytes k) ≡ 128
    length-slot_said =
        let size : length (slot_in_page bytes k) ≡ 128 =
        length-take-le 128 (drop (128 * k) bytes) (omega (arith, long, lt, length-drop (128 * k) bytes)) in
        elim (cases_Bool (get_or formed k false)) [
          | inl is ↦ rw (slot_said-formed, size)
          | inr not ↦ rw (slot_said-unformed, length-slot_form, size)
        ]

pub slot_in_page-said : (kind : Kind) (number : ℕ) (formed : List Bool) (bytes page : List ℕ) (k : ℕ) → page_said kind number formed bytes ≡ page
    → length bytes ≡ 4096 → k < 32 → slot_in_page page k ≡ slot_said kind number formed bytes k
unfolding page_said
slot_in_page-said kind number formed bytes page k is long lt =
    ap (λ (list : List ℕ). slot_in_page list k) (sym is)
    ∙ slot_in_page-row (slot_said kind number formed bytes) 0 32 k k (omega arith) lt
    (λ j from below. length-slot_said kind number formed bytes j long (omega (arith, below)))

-- a slot is written, which is as it says then
module _ (kind : Kind) (number : ℕ) (formed : List Bool) (old new slot : List ℕ) (n : ℕ) (many : length formed ≡ 32) (lt : n < 32)
    (written : slot_in_page new n ≡ slot) (others : (k : ℕ) → k < 32 → k ≢ n → slot_in_page new k ≡ slot_in_page old k) where
  pub slot_said-written : slot_said kind number (set formed n true) new n ≡ slot
  slot_said-written =
      slot_said-formed kind number (set formed n true) new n (get_or-set_same formed n true false (omega (arith, many, lt))) ∙ written

  pub slot_said-others : (k : ℕ) → k < 32 → k ≢ n → slot_said kind number (set formed n true) new k ≡ slot_said kind number formed old k
  slot_said-others k below apart = rw (get_or-set_other, others)

  -- it is what the slot said before, and so the page says the same
  pub page_said-formed : get_or formed n false ≡ false → slot ≡ slot_form kind (32 * number + n) (slot_in_page old n)
      → page_said kind number (set formed n true) new ≡ page_said kind number formed old
  unfolding page_said
  page_said-formed not is =
      same_slots (slot_said kind number (set formed n true) new) (slot_said kind number formed old) 0 32 (λ k from below. elim (cases_eq k n) [
        | inl here ↦ ap (slot_said kind number (set formed n true) new) here ∙ slot_said-written ∙ is
            ∙ sym (slot_said-unformed kind number formed old n not) ∙ ap (slot_said kind number formed old) (sym here)
        | inr apart ↦ slot_said-others k (omega (arith, below)) apart
      ])
