-- What a put of a record, or of zeros, makes of the slots that are occupied.
use Rattle.std.proofs.Common.{[], ◌++◌, ◌+◌, ◌-◌, ◌<◌, ◌∙◌, ◌∷◌, ◌≡◌, ◌≤◌, ap, append-nil, ap₂, arith, Bool, cond, false, filter, inl, inr, IsPermutation}
use Rattle.std.proofs.Common.{length, List, map, nat_eq, None, not, Option, refl, replicate, Some, subst, suc, sym, true, zero, ℕ}
use Rattle.std.proofs.lemmas.List.Elements.{All-from_recursion, filter-append, recursion_from_All}
use Rattle.std.proofs.lemmas.List.Sorted.{All-permutation, IsPermutation-cons, IsPermutation-middle, IsPermutation-sym, IsPermutation-trans}
use Rattle.std.proofs.lemmas.List.Sorted.{sum_by-IsPermutation}
use Rattle.std.specs.List.{AllByRecursion, range_with_len}
use Rattle.std.proofs.lemmas.Bool.{cases_Bool, cases_lt, cond-false, cond-true, false_from_ne_true}
use Rattle.std.proofs.lemmas.List.{map-append}
use Rattle.std.proofs.lemmas.Bool.Decides.{nat_tests}
use Rattle.std.specs.Prelude.{sum_by}
use Rattle.std.proofs.lemmas.List.Sums.{sum_by-append, sum_by-cons}
use Rattle.ss_journal.specs.Redo.{changed, SlotMap, zeros}
use Rattle.ss_journal.specs.declared.put.Put.{Put}
use Rattle.ss_journal.specs.Puts.{with_put}
use Rattle.ss_records.specs.Live.{are_zeros}
use Rattle.ss_records.proofs.LiveLemmas.{replicate-are_zeros}
use Rattle.ss_codec.specs.Decoded.{decoded, record_in}
use Rattle.ss_codec.proofs.RecordLemmas.{decoded-Spells}
use Rattle.ss_codec.specs.declared.record.Record.TheVariants.{Free}
use Rattle.ss_codec.specs.declared.record.Record.{Record}
use Rattle.ss_parts.specs.Held.{IsRecord, occupied}
use Rattle.std.specs.Str.{bytes_eq}
use Rattle.ss_codec.specs.Record.{is_valid, spelling}
use Rattle.ss_parts.proofs.WholeMaps.{filled, filled-same}
use Rattle.ss_parts.proofs.Lists.{all_weaker, range-above, range-below, range-within, range_with_len-append}
use Rattle.ss_parts.proofs.Permutations.{IsPermutation-filter}

pub filled-append : (bytes : ℕ → List ℕ) (xs ys : List ℕ) → filled bytes (xs ++ ys) ≡ filled bytes xs ++ filled bytes ys
filled-append bytes xs ys =
    ap (map (λ slot. (slot, decoded (bytes slot)))) (filter-append (λ slot. not (are_zeros (bytes slot))) xs ys)
    ∙ map-append (λ slot. (slot, decoded (bytes slot))) (filter (λ slot. not (are_zeros (bytes slot))) xs) (filter (λ slot. not (are_zeros (bytes slot))) ys)

pub filled-live : (bytes : ℕ → List ℕ) (slot : ℕ) (slots : List ℕ) → are_zeros (bytes slot) ≡ false →
    filled bytes (slot ∷ slots) ≡ (slot, decoded (bytes slot)) ∷ filled bytes slots
filled-live bytes slot slots live = rw live refl

pub filled-zeros : (bytes : ℕ → List ℕ) (slot : ℕ) (slots : List ℕ) → are_zeros (bytes slot) ≡ true → filled bytes (slot ∷ slots) ≡ filled bytes slots
filled-zeros bytes slot slots zeros = rw zeros refl

-- a put leaves the slots beside its own
filled-with_put : (put : Put) (bytes : ℕ → List ℕ) (slots : List ℕ) → AllByRecursion (λ slot. nat_eq slot put.slot ≡ false) slots →
    filled (with_put put bytes) slots ≡ filled bytes slots
filled-with_put put bytes slots beside = filled-same (with_put put bytes) bytes slots (all_weaker _ _ (λ slot other. cond-false _ _ _ other) slots beside)

-- the slots below one, and those above it below another
abbrev pub front : ℕ → List ℕ
front p = range_with_len 0 p

abbrev pub back : ℕ → ℕ → List ℕ
back p n = range_with_len (p + 1) (n - (p + 1))

pub range-at : (p n : ℕ) → p < n → range_with_len 0 n ≡ front p ++ p ∷ back p n
range-at p n below =
    let first : range_with_len 0 n ≡ front p ++ range_with_len p (n - p) = range_with_len-append 0 p (n - p) n p (omega arith) (omega arith) in
    let second : range_with_len p (n - p) ≡ p ∷ back p n = range_with_len-append p 1 (n - (p + 1)) (n - p) (p + 1) (omega arith) refl in
    first ∙ ap (λ l. front p ++ l) second

-- the filled slots beside one
abbrev pub beside : (ℕ → List ℕ) → ℕ → ℕ → List (ℕ × Option Record)
beside bytes p n = filled bytes (front p) ++ filled bytes (back p n)

filled-at_live : (bytes : ℕ → List ℕ) (p n : ℕ) → p < n → are_zeros (bytes p) ≡ false →
    filled bytes (range_with_len 0 n) ≡ filled bytes (front p) ++ (p, decoded (bytes p)) ∷ filled bytes (back p n)
filled-at_live bytes p n below live =
    ap (filled bytes) (range-at p n below) ∙ filled-append bytes (front p) (p ∷ back p n)
    ∙ ap (λ l. filled bytes (front p) ++ l) (filled-live bytes p (back p n) live)

pub filled-at_zeros : (bytes : ℕ → List ℕ) (p n : ℕ) → p < n → are_zeros (bytes p) ≡ true → filled bytes (range_with_len 0 n) ≡ beside bytes p n
filled-at_zeros bytes p n below zeros =
    ap (filled bytes) (range-at p n below) ∙ filled-append bytes (front p) (p ∷ back p n)
    ∙ ap (λ l. filled bytes (front p) ++ l) (filled-zeros bytes p (back p n) zeros)

-- before a slot is the next one
pub filled-before : (bytes : ℕ → List ℕ) (p n : ℕ) → p ≡ n → filled bytes (range_with_len 0 n) ≡ beside bytes p (n + 1)
filled-before bytes p n next =
    let none : n + 1 - (p + 1) ≡ 0 = omega arith in
    rw (none, next) (sym (append-nil (filled bytes (range_with_len 0 n))))

beside-with_put : (put : Put) (bytes : ℕ → List ℕ) (n : ℕ) → beside (with_put put bytes) put.slot n ≡ beside bytes put.slot n
beside-with_put put bytes n =
    ap₂ ◌++◌ (filled-with_put put bytes (front put.slot) (range-below put.slot 0 put.slot (omega arith)))
    (filled-with_put put bytes (back put.slot n) (range-above put.slot (put.slot + 1) (n - (put.slot + 1)) (omega arith)))

with_put-same : (put : Put) (bytes : ℕ → List ℕ) → with_put put bytes put.slot ≡ put.bytes
with_put-same put bytes =
    let same : nat_eq put.slot put.slot ≡ true = grind (arith, nat_tests) in
    cond-true _ _ _ same

-- after a put of bytes that aren't zeros, and after one of zeros
pub filled-put_live : (put : Put) (bytes : ℕ → List ℕ) (n : ℕ) → put.slot < n → are_zeros put.bytes ≡ false →
    IsPermutation ((put.slot, decoded put.bytes) ∷ beside bytes put.slot n) (filled (with_put put bytes) (range_with_len 0 n))
filled-put_live put bytes n below live =
    let p = put.slot in
    let same = with_put-same put bytes in
    let here : are_zeros (with_put put bytes p) ≡ false = ap are_zeros same ∙ live in
    let new = with_put put bytes in
    let whole : filled new (range_with_len 0 n) ≡ filled new (front p) ++ (p, decoded (new p)) ∷ filled new (back p n) = filled-at_live new p n below here in
    let back : IsPermutation ((p, decoded (new p)) ∷ beside new p n) (filled new (range_with_len 0 n)) =
    subst (λ l. IsPermutation ((p, decoded (new p)) ∷ beside new p n) l) (sym whole)
    (IsPermutation-sym _ _ (IsPermutation-middle (filled new (front p)) (p, decoded (new p)) (filled new (range_with_len (p + 1) (n - (p + 1)))))) in
    subst (λ l. IsPermutation l (filled new (range_with_len 0 n))) (λ i. (p, decoded (same i)) ∷ beside-with_put put bytes n i) back

pub filled-put_zeros : (put : Put) (bytes : ℕ → List ℕ) (n : ℕ) → put.slot < n → are_zeros put.bytes ≡ true →
    filled (with_put put bytes) (range_with_len 0 n) ≡ beside bytes put.slot n
filled-put_zeros put bytes n below zeros =
    let here : are_zeros (with_put put bytes put.slot) ≡ true = ap are_zeros (with_put-same put bytes) ∙ zeros in
    filled-at_zeros (with_put put bytes) put.slot n below here ∙ beside-with_put put bytes n

-- each slot that is filled lies in its list, isn't zeros, and has what it spells
abbrev IsFilled : (ℕ → List ℕ) → (ℕ → Type 0) → ℕ × Option Record → Type 0
IsFilled bytes P e = P e.0 × (are_zeros (bytes e.0) ≡ false) × (e.1 ≡ decoded (bytes e.0))

filled-all : (bytes : ℕ → List ℕ) (P : ℕ → Type 0) (slots : List ℕ) → AllByRecursion P slots → AllByRecursion (IsFilled bytes P) (filled bytes slots)
filled-all bytes P [] all = tt
filled-all bytes P (slot ∷ slots) all = elim (cases_Bool (are_zeros (bytes slot))) [
  | inl zeros ↦ subst (AllByRecursion (IsFilled bytes P)) (sym (filled-zeros bytes slot slots zeros)) (filled-all bytes P slots all.1)
  | inr live ↦
      subst (AllByRecursion (IsFilled bytes P)) (sym (filled-live bytes slot slots live)) ((all.0, live, refl), filled-all bytes P slots all.1)
]

-- 1 at the entries of a slot
abbrev is_at : ℕ → ℕ × Option Record → ℕ
is_at p e = cond (nat_eq e.0 p) 1 0

abbrev is_beside : ℕ → ℕ × Option Record → Bool
is_beside p e = not (nat_eq e.0 p)

none-at : (p : ℕ) (es : List (ℕ × Option Record)) → AllByRecursion (λ e. nat_eq e.0 p ≡ false) es → sum_by (is_at p) es ≡ 0
none-at p [] all = refl
none-at p (e ∷ es) all =
    let here : is_at p e ≡ 0 = cond-false _ _ _ all.0 in
    omega (arith, sum_by-cons (is_at p) e es, here, none-at p es all.1)

all-beside : (p : ℕ) (es : List (ℕ × Option Record)) → sum_by (is_at p) es ≡ 0 → AllByRecursion (λ e. nat_eq e.0 p ≡ false) es
all-beside p [] none = tt
all-beside p (e ∷ es) none =
    let parts = sum_by-cons (is_at p) e es in
    let here : is_at p e ≡ 0 = omega arith in
    let rest : sum_by (is_at p) es ≡ 0 = omega arith in
    (grind (arith, nat_tests), all-beside p es rest)

filter-beside : (p : ℕ) (es : List (ℕ × Option Record)) → AllByRecursion (λ e. nat_eq e.0 p ≡ false) es → filter (is_beside p) es ≡ es
filter-beside p [] all = refl
filter-beside p (e ∷ es) all = rw (all.0, filter-beside p es all.1) refl

filled-beside : (bytes : ℕ → List ℕ) (p : ℕ) (slots : List ℕ) → AllByRecursion (λ slot. nat_eq slot p ≡ false) slots →
    AllByRecursion (λ e. nat_eq e.0 p ≡ false) (filled bytes slots)
filled-beside bytes p slots all =
    all_weaker (IsFilled bytes (λ slot. nat_eq slot p ≡ false)) _ (λ e is. is.0) (filled bytes slots)
    (filled-all bytes (λ slot. nat_eq slot p ≡ false) slots all)

-- one entry among those of a map: its slot lies below the extent, isn't zeros and spells this, and the others are those beside it
pub record IsAmong (bytes : ℕ → List ℕ) (p n : ℕ) (was : Option Record) (rest : List (ℕ × Option Record)) : Type 0 where
  pub below : p < n
  pub live : are_zeros (bytes p) ≡ false
  pub spells : was ≡ decoded (bytes p)
  pub others : IsPermutation rest (beside bytes p n)

pub IsAmong-filled : (bytes : ℕ → List ℕ) (p n : ℕ) (was : Option Record) (rest : List (ℕ × Option Record)) →
    IsPermutation ((p, was) ∷ rest) (filled bytes (range_with_len 0 n)) → IsAmong bytes p n was rest
IsAmong-filled bytes p n was rest moved =
    let P : ℕ × Option Record → Type 0 = IsFilled bytes (λ slot. slot < n) in
    let each : AllByRecursion P (filled bytes (range_with_len 0 n)) =
    filled-all bytes (λ slot. slot < n) (range_with_len 0 n) (range-within 0 n n (omega arith)) in
    let here = recursion_from_All P ((p, was) ∷ rest) (All-permutation P (filled bytes (range_with_len 0 n)) ((p, was) ∷ rest) (IsPermutation-sym _ _ moved)
    (All-from_recursion P (filled bytes (range_with_len 0 n)) each)) in
    let whole = filled-at_live bytes p n here.0.0 here.0.1 in
    let x : ℕ × Option Record = (p, decoded (bytes p)) in
    let xs = filled bytes (front p) in
    let ys = filled bytes (back p n) in
    let before = filled-beside bytes p (front p) (range-below p 0 p (omega arith)) in
    let after = filled-beside bytes p (back p n) (range-above p (p + 1) (n - (p + 1)) (omega arith)) in
    let moved_here : IsPermutation ((p, was) ∷ rest) (xs ++ x ∷ ys) = subst (λ l. IsPermutation ((p, was) ∷ rest) l) whole moved in
    let eq : nat_eq p p ≡ true = grind (arith, nat_tests) in
    let one : is_at p x ≡ 1 = cond-true _ _ _ eq in
    let also : is_at p (p, was) ≡ 1 = cond-true _ _ _ eq in
    let count : sum_by (is_at p) (xs ++ x ∷ ys) ≡ 1 =
    omega (arith, sum_by-append (is_at p) xs (x ∷ ys), sum_by-cons (is_at p) x ys, none-at p xs before, none-at p ys after, one) in
    let none : sum_by (is_at p) rest ≡ 0 =
    omega (arith, count, sum_by-IsPermutation (is_at p) ((p, was) ∷ rest) (xs ++ x ∷ ys) moved_here, sum_by-cons (is_at p) (p, was) rest, also) in
    let left : filter (is_beside p) ((p, was) ∷ rest) ≡ rest = rw eq (filter-beside p rest (all-beside p rest none)) in
    let right_end : filter (is_beside p) (x ∷ ys) ≡ ys = rw eq (filter-beside p ys after) in
    let right : filter (is_beside p) (xs ++ x ∷ ys) ≡ xs ++ ys = filter-append (is_beside p) xs (x ∷ ys) ∙ ap₂ ◌++◌ (filter-beside p xs before) right_end in
    let kept = IsPermutation-filter (is_beside p) ((p, was) ∷ rest) (xs ++ x ∷ ys) moved_here in
    record {
      below = here.0.0;
      live = here.0.1;
      spells = here.0.2;
      others = subst (λ l. IsPermutation l (xs ++ ys)) left (subst (λ l. IsPermutation (filter (is_beside p) ((p, was) ∷ rest)) l) right kept);
    }

-- ---- what a put of a record, or of zeros, makes of the slots that are occupied

-- zeros spell a free slot, or nothing
free_alone : (same valid : Bool) (r : Record) → cond same (cond valid (Some Free) None) None ≡ Some r → r ≡ Free
free_alone true true r is = cc
free_alone true false r is = cc
free_alone false valid r is = cc

decoded-zeros : (n : ℕ) (r : Record) → decoded (replicate n 0) ≡ Some r → r ≡ Free
unfolding decoded record_in
decoded-zeros zero r is = free_alone (bytes_eq (spelling Free) []) (is_valid Free) r is
decoded-zeros (suc n) r is = free_alone (bytes_eq (spelling Free) (replicate (suc n) 0)) (is_valid Free) r is

-- a record's bytes aren't zeros
pub live-IsRecord : (put : Put) (r : Record) → IsRecord put r → are_zeros put.bytes ≡ false
live-IsRecord put r is =
    false_from_ne_true (are_zeros put.bytes) (λ zeros.
    is.some (decoded-zeros (length put.bytes) r (sym (ap decoded (replicate-are_zeros put.bytes zeros)) ∙ decoded-Spells put.bytes r is.spelled)))

pub are_zeros-zeros : (bytes : List ℕ) → bytes ≡ zeros → are_zeros bytes ≡ true
are_zeros-zeros bytes is = ap are_zeros is

-- the extent after a put at the next slot, and below it
extent-next : (put : Put) (found : SlotMap) → put.slot ≡ found.extent → (changed found (put ∷ [])).extent ≡ found.extent + 1
extent-next put found next =
    let same : nat_eq put.slot found.extent ≡ true = grind (arith, nat_tests) in
    cond-true _ _ _ same

pub extent-stays : (put : Put) (found : SlotMap) → put.slot < found.extent → (changed found (put ∷ [])).extent ≡ found.extent
extent-stays put found below =
    let other : nat_eq put.slot found.extent ≡ false = grind (arith, nat_tests) in
    cond-false _ _ _ other

occupied-changed : (put : Put) (found : SlotMap) (n : ℕ) → (changed found (put ∷ [])).extent ≡ n →
    occupied (changed found (put ∷ [])) ≡ filled (with_put put found.bytes) (range_with_len 0 n)
occupied-changed put found n is = ap (λ k. filled (with_put put found.bytes) (range_with_len 0 k)) is

-- a record in a slot that was free
pub occupied-free : (found : SlotMap) (put : Put) (r : Record) → IsRecord put r → put.slot ≤ found.extent → are_zeros (found.bytes put.slot) ≡ true →
    IsPermutation ((put.slot, Some r) ∷ occupied found) (occupied (changed found (put ∷ [])))
occupied-free found put r is within free = elim (cases_lt put.slot found.extent) [
  | inl below ↦ go found.extent below (extent-stays put found below) (filled-at_zeros found.bytes put.slot found.extent below free)
  | inr past ↦
      let next : put.slot ≡ found.extent = omega arith in
      go (found.extent + 1) (omega arith) (extent-next put found next) (filled-before found.bytes put.slot found.extent next)
]
  where
    go : (n : ℕ) → put.slot < n → (changed found (put ∷ [])).extent ≡ n → occupied found ≡ beside found.bytes put.slot n →
        IsPermutation ((put.slot, Some r) ∷ occupied found) (occupied (changed found (put ∷ [])))
    go n below extent was =
        let e : decoded put.bytes ≡ Some r = decoded-Spells put.bytes r is.spelled in
        let moved = filled-put_live put found.bytes n below (live-IsRecord put r is) in
        subst (λ l. IsPermutation ((put.slot, Some r) ∷ occupied found) l) (sym (occupied-changed put found n extent))
        (subst (λ l. IsPermutation l (filled (with_put put found.bytes) (range_with_len 0 n))) (λ i. (put.slot, e i) ∷ sym was i) moved)

-- a record, or zeros, in the place of a record
module _ (found : SlotMap) (put : Put) (was : Option Record) (rest : List (ℕ × Option Record))
    (moved : IsPermutation ((put.slot, was) ∷ rest) (occupied found)) where
  among : IsAmong found.bytes put.slot found.extent was rest
  among = IsAmong-filled found.bytes put.slot found.extent was rest moved

  after : occupied (changed found (put ∷ [])) ≡ filled (with_put put found.bytes) (range_with_len 0 found.extent)
  after = occupied-changed put found found.extent (extent-stays put found among.below)

  pub occupied-replaced : (r : Record) → IsRecord put r → IsPermutation ((put.slot, Some r) ∷ rest) (occupied (changed found (put ∷ [])))
  occupied-replaced r is =
      let e : decoded put.bytes ≡ Some r = decoded-Spells put.bytes r is.spelled in
      let new = filled-put_live put found.bytes found.extent among.below (live-IsRecord put r is) in
      let old : IsPermutation ((put.slot, decoded put.bytes) ∷ rest) ((put.slot, decoded put.bytes) ∷ beside found.bytes put.slot found.extent) =
      IsPermutation-cons (put.slot, decoded put.bytes) rest (beside found.bytes put.slot found.extent) among.others in
      subst (λ l. IsPermutation ((put.slot, Some r) ∷ rest) l) (sym after)
      (subst (λ o. IsPermutation ((put.slot, o) ∷ rest) (filled (with_put put found.bytes) (range_with_len 0 found.extent))) e
      (IsPermutation-trans _ _ _ old new))

  pub occupied-freed : put.bytes ≡ zeros → IsPermutation rest (occupied (changed found (put ∷ [])))
  occupied-freed is =
      let gone = filled-put_zeros put found.bytes found.extent among.below (are_zeros-zeros put.bytes is) in
      subst (λ l. IsPermutation rest l) (sym (after ∙ gone)) among.others
