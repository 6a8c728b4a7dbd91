-- Lemmas on lists of anything, and on numbers in a row.
use Rattle.std.proofs.Common.{[], ◌++◌, ◌+◌, ◌<◌, ◌∙◌, ◌∷◌, ◌≡◌, ◌≤◌, ap, ap₂, arith, Bool, cond, false, filter, inl, inr, length, List, map, nat_eq, None}
use Rattle.std.proofs.Common.{Option, refl, Some, suc, sym, true, zero, ℕ}
use Rattle.std.specs.List.{AllByRecursion, filter_map, list_all, list_any, position, position_or_len, range_with_len}
use Rattle.std.proofs.lemmas.Bool.{and_from, and_parts, cases_Bool, cond-false, cond_both, le-ltb, or_parts}
use Rattle.std.proofs.lemmas.Bool.Decides.{nat_tests}

-- what holds of each element
pub all_weaker : {X : Type 0} (P Q : X → Type 0) → ((x : X) → P x → Q x) → (xs : List X) → AllByRecursion P xs → AllByRecursion Q xs
all_weaker P Q weaker [] all = tt
all_weaker P Q weaker (x ∷ xs) all = (weaker x all.0, all_weaker P Q weaker xs all.1)

pub all_both : {X : Type 0} (P Q R : X → Type 0) → ((x : X) → P x → Q x → R x) → (xs : List X) → AllByRecursion P xs → AllByRecursion Q xs →
    AllByRecursion R xs
all_both P Q R both [] ps qs = tt
all_both P Q R both (x ∷ xs) ps qs = (both x ps.0 qs.0, all_both P Q R both xs ps.1 qs.1)

-- what holds of what is made of each
pub map-all : {X Y : Type 0} (P : Y → Type 0) (f : X → Y) (xs : List X) → AllByRecursion (λ x. P (f x)) xs → AllByRecursion P (map f xs)
map-all P f [] all = tt
map-all P f (x ∷ xs) all = (all.0, map-all P f xs all.1)

pub all-from_map : {X Y : Type 0} (P : Y → Type 0) (f : X → Y) (xs : List X) → AllByRecursion P (map f xs) → AllByRecursion (λ x. P (f x)) xs
all-from_map P f [] all = tt
all-from_map P f (x ∷ xs) all = (all.0, all-from_map P f xs all.1)

pub list_all-each : {X : Type 0} (p : X → Bool) (xs : List X) → AllByRecursion (λ x. p x ≡ true) xs → list_all p xs ≡ true
list_all-each p [] all = refl
list_all-each p (x ∷ xs) all = and_from _ _ all.0 (list_all-each p xs all.1)

pub each-list_all : {X : Type 0} (p : X → Bool) (xs : List X) → list_all p xs ≡ true → AllByRecursion (λ x. p x ≡ true) xs
each-list_all p [] all = tt
each-list_all p (x ∷ xs) all = let parts = and_parts _ _ all in (parts.0, each-list_all p xs parts.1)

-- what passes a test, where all pass it or none does
pub filter-all : {X : Type 0} (p : X → Bool) (xs : List X) → AllByRecursion (λ x. p x ≡ true) xs → filter p xs ≡ xs
filter-all p [] all = refl
filter-all p (x ∷ xs) all = rw all.0 (ap (λ l. x ∷ l) (filter-all p xs all.1))

pub filter-none : {X : Type 0} (p : X → Bool) (xs : List X) → AllByRecursion (λ x. p x ≡ false) xs → filter p xs ≡ []
filter-none p [] none = refl
filter-none p (x ∷ xs) none = rw none.0 (filter-none p xs none.1)

pub filter-same : {X : Type 0} (p q : X → Bool) (xs : List X) → AllByRecursion (λ x. p x ≡ q x) xs → filter p xs ≡ filter q xs
filter-same p q [] same = refl
filter-same p q (x ∷ xs) same = ap₂ (λ (b : Bool) rest. cond b (x ∷ rest) rest) same.0 (filter-same p q xs same.1)

pub all-each : {X : Type 0} (P : X → Type 0) → ((x : X) → P x) → (xs : List X) → AllByRecursion P xs
all-each P each [] = tt
all-each P each (x ∷ xs) = (each x, all-each P each xs)

pub all-passing : {X : Type 0} (p : X → Bool) (xs : List X) → AllByRecursion (λ x. p x ≡ true) (filter p xs)
all-passing p [] = tt
all-passing p (x ∷ xs) =
    cond_both (p x) (x ∷ filter p xs) (filter p xs) (AllByRecursion (λ y. p y ≡ true)) (λ passes. (passes, all-passing p xs)) (λ fails. all-passing p xs)

pub all-kept : {X : Type 0} (P : X → Type 0) (p : X → Bool) (xs : List X) → AllByRecursion P xs → AllByRecursion P (filter p xs)
all-kept P p [] all = tt
all-kept P p (x ∷ xs) all =
    let rest = all-kept P p xs all.1 in
    cond_both (p x) (x ∷ filter p xs) (filter p xs) (AllByRecursion P) (λ passes. (all.0, rest)) (λ fails. rest)

-- what passes a test, as what is made of each
abbrev pub kept : {X : Type 0} → (X → Bool) → X → Option X
kept p x = cond (p x) (Some x) None

pub filter_map-kept : {X : Type 0} (p : X → Bool) (xs : List X) → filter_map (kept p) xs ≡ filter p xs
filter_map-kept p [] = refl
filter_map-kept p (x ∷ xs) = elim (cases_Bool (p x)) [
  | inl passes ↦ rw passes (ap (λ l. x ∷ l) (filter_map-kept p xs))
  | inr fails ↦ rw fails (filter_map-kept p xs)
]

-- what passes a test passes it among those that do
any-passing : {X : Type 0} (p : X → Bool) (xs : List X) → list_any p (filter p xs) ≡ list_any p xs
any-passing p [] = refl
any-passing p (x ∷ xs) = elim (cases_Bool (p x)) [
  | inl passes ↦ rw (passes, passes) refl
  | inr fails ↦ rw fails (any-passing p xs)
]

pub any-made : {X : Type 0} (p : X → Bool) (xs ys : List X) → filter_map (kept p) xs ≡ filter_map (kept p) ys → list_any p xs ≡ list_any p ys
any-made p xs ys same = sym (any-passing p xs) ∙ ap (list_any p) (sym (filter_map-kept p xs) ∙ same ∙ filter_map-kept p ys) ∙ any-passing p ys

-- no place where nothing passes
position_or_len-none : {X : Type 0} (p : X → Bool) (xs : List X) → list_any p xs ≡ false → position_or_len p xs ≡ length xs
position_or_len-none p [] none = refl
position_or_len-none p (x ∷ xs) none =
    let parts = or_parts (p x) (list_any p xs) none in
    let rest = position_or_len-none p xs parts.1 in
    rw parts.0 (omega (arith, rest))

pub position-none : {X : Type 0} (p : X → Bool) (xs : List X) → list_any p xs ≡ false → position p xs ≡ None
position-none p xs none =
    let all = position_or_len-none p xs none in
    cond-false _ _ _ (le-ltb (position_or_len p xs) (length xs) (omega arith))

-- numbers in a row, in two parts
pub range_with_len-append : (a n m k b : ℕ) → k ≡ n + m → b ≡ a + n → range_with_len a k ≡ range_with_len a n ++ range_with_len b m
range_with_len-append a zero m k b whole start =
    let same : k ≡ m = omega arith in
    let at : b ≡ a = omega arith in
    rw (same, at) refl
range_with_len-append a (suc n) m zero b whole start = absurd (omega arith)
range_with_len-append a (suc n) m (suc k) b whole start = ap (λ l. a ∷ l) (range_with_len-append (a + 1) n m k b (omega arith) (omega arith))

-- a number isn't in a row below it, nor in one above it
pub range-below : (p a n : ℕ) → a + n ≤ p → AllByRecursion (λ slot. nat_eq slot p ≡ false) (range_with_len a n)
range-below p a zero below = tt
range-below p a (suc n) below = (grind (arith, nat_tests), range-below p (a + 1) n (omega arith))

pub range-above : (p a n : ℕ) → p < a → AllByRecursion (λ slot. nat_eq slot p ≡ false) (range_with_len a n)
range-above p a zero above = tt
range-above p a (suc n) above = (grind (arith, nat_tests), range-above p (a + 1) n (omega arith))

pub range-within : (a n end : ℕ) → a + n ≤ end → AllByRecursion (λ slot. slot < end) (range_with_len a n)
range-within a zero end inside = tt
range-within a (suc n) end inside = (omega arith, range-within (a + 1) n end (omega arith))
