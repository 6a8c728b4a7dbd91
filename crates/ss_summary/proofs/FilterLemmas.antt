-- The bits of filters.
use Rattle.std.specs.Prelude.{◌≡◌, ℕ, zero, suc, ◌-◌, ◌/◌, ◌%◌, ◌^◌, ◌<◌, max, true, false, ◌||◌, ◌==◌, if◌then◌else◌, ℤ}
use Rattle.std.specs.Prelude.{List, [], ◌∷◌, ◌++◌, bit_or, length, map}
use Rattle.std.specs.Int.{bit_at}
use Rattle.std.specs.List.{list_any}
use Rattle.std.specs.Ordering.{int_eq}
use Rattle.std.proofs.lemmas.List.{get_or_past}
use Rattle.std.proofs.Common.{ap, ap₂, arith, inl, inr, lit≤, refl, subst, sym, ◌∙◌}
use Rattle.std.proofs.Math.Bool.{or-false, or-true}
use Rattle.std.proofs.lemmas.Bool.{cases_Bool, cases_lt, cond_both, eq-eqb, eqb-false, eqb-true, or_cases}
use Rattle.std.proofs.lemmas.Bool.Decides.{Decides-int_eq}
use Rattle.std.proofs.lemmas.List.Elements.{All-cons, All-nil}
use Rattle.std.proofs.lemmas.Nat.{or_lt, pow_below}
use Rattle.std.proofs.lemmas.Nat.Bits.{bit_at_or, bit_at_ones, bit_at-lt, bit_at-pow_same, bit_at-pow_other, bit_at-zero, same_from_bits}
use Rattle.ss_summary.specs.Filters.{bit_of, filter_of, filter_of_point, filter_with, four, full, gives, has, has_bit, union, IsFilter, word}
use Rattle.ss_summary.specs.Points.{Point, Old, New}
use Rattle.ss_summary.specs.Summaries.{summary_of}
use Rattle.ss_summary.specs.declared.filter.Filter.{Filter}

-- filters of four words are one where their words are
four-same : (f g : ℕ → ℕ) → f 0 ≡ g 0 → f 1 ≡ g 1 → f 2 ≡ g 2 → f 3 ≡ g 3 → four f ≡ four g
four-same f g a b c d = λ i. record { words = a i ∷ b i ∷ c i ∷ d i ∷ [] }

pub IsFilter-four : (w : ℕ → ℕ) → ((k : ℕ) → w k < 2 ^ 64) → IsFilter (four w)
IsFilter-four w fit =
    let Fits : ℕ → Type 0 = λ word. word < 2 ^ 64 in
    let last = All-cons Fits (w 3) [] (fit 3) (All-nil Fits) in
    let third = All-cons Fits (w 2) (w 3 ∷ []) (fit 2) last in
    let second = All-cons Fits (w 1) (w 2 ∷ w 3 ∷ []) (fit 1) third in
    record { words = refl; fit = All-cons Fits (w 0) (w 1 ∷ w 2 ∷ w 3 ∷ []) (fit 0) second }

word-four : (w : ℕ → ℕ) (k : ℕ) → k < 4 → word (four w) k ≡ w k
word-four w zero few = refl
word-four w (suc zero) few = refl
word-four w (suc (suc zero)) few = refl
word-four w (suc (suc (suc zero))) few = refl
word-four w (suc (suc (suc (suc k)))) few = absurd (omega arith)

or_assoc : (a b c : ℕ) → bit_or (bit_or a b) c ≡ bit_or a (bit_or b c)
or_assoc a b c = same_from_bits _ _ (λ i. omega (arith, bit_at_or (bit_or a b) c i, bit_at_or a b i, bit_at_or a (bit_or b c) i, bit_at_or b c i))

-- in which order filters are united has no effect
pub union_assoc : (a b c : Filter) → union (union a b) c ≡ union a (union b c)
unfolding union
union_assoc a b c =
    four-same (λ k. bit_or (bit_or (word a k) (word b k)) (word c k)) (λ k. bit_or (word a k) (bit_or (word b k) (word c k)))
    (or_assoc (word a 0) (word b 0) (word c 0)) (or_assoc (word a 1) (word b 1) (word c 1))
    (or_assoc (word a 2) (word b 2) (word c 2)) (or_assoc (word a 3) (word b 3) (word c 3))

-- the bits of points, and of others after them
pub filter_with-append : (filter : Filter) (xs : List Point) (y : Point) (ys : List Point)
    → filter_with filter (xs ++ y ∷ ys) ≡ union (filter_with filter xs) (filter_with (filter_of_point y) ys)
filter_with-append filter [] y ys = refl
filter_with-append filter (x ∷ xs) y ys =
    ap (union filter) (filter_with-append (filter_of_point x) xs y ys)
    ∙ sym (union_assoc filter (filter_with (filter_of_point x) xs) (filter_with (filter_of_point y) ys))

pub bit_of-lt : (v : ℤ) → bit_of v < 256
unfolding bit_of
bit_of-lt v = omega arith

-- which bits are set in each filter
one_or_one : (a b : ℕ) → a < 2 → b < 2 → (max a b == 1) ≡ (a == 1 || b == 1)
one_or_one zero zero p q = refl
one_or_one zero (suc zero) p q = refl
one_or_one (suc zero) zero p q = refl
one_or_one (suc zero) (suc zero) p q = refl
one_or_one (suc (suc a)) b p q = absurd (omega arith)
one_or_one a (suc (suc b)) p q = absurd (omega arith)

pub has_bit-union : (a b : Filter) (bit : ℕ) → bit < 256 → has_bit (union a b) bit ≡ (has_bit a bit || has_bit b bit)
unfolding union
has_bit-union a b bit low =
    let k = bit / 64 in
    let i = bit % 64 in
    let here = word-four (λ k. bit_or (word a k) (word b k)) k (omega arith) in
    ap (λ w. bit_at w i == 1) here ∙ ap (λ n. n == 1) (bit_at_or (word a k) (word b k) i)
    ∙ one_or_one (bit_at (word a k) i) (bit_at (word b k) i) (bit_at-lt (word a k) i) (bit_at-lt (word b k) i)

pub has_bit-full : (bit : ℕ) → bit < 256 → has_bit full bit ≡ true
unfolding full
has_bit-full bit low =
    let here = word-four (λ k. 2 ^ 64 - 1) (bit / 64) (omega arith) in
    ap (λ w. bit_at w (bit % 64) == 1) here ∙ ap (λ n. n == 1) (bit_at_ones 64 (bit % 64) (omega arith))

-- one bit alone
alone : ℕ → ℕ → ℕ
alone set k = if k == set / 64 then 2 ^ (set % 64) else 0

apart-eqb : (a b : ℕ) → (a ≡ b → ⊥) → (a == b) ≡ false
apart-eqb a b apart = elim (cases_Bool (a == b)) [
  | inl same ↦ absurd (apart (eqb-true a b same))
  | inr other ↦ other
]

one-same : (i : ℕ) → (bit_at (2 ^ i) i == 1) ≡ true
one-same i = ap (λ n. n == 1) (bit_at-pow_same i)

has_bit-alone : (set bit : ℕ) → bit < 256 → has_bit (four (alone set)) bit ≡ (bit == set)
unfolding alone
has_bit-alone set bit low =
    let here = ap (λ w. bit_at w (bit % 64) == 1) (word-four (alone set) (bit / 64) (omega arith)) in
    elim (cases_Bool (bit / 64 == set / 64)) [
      | inl same ↦ elim (cases_Bool (bit % 64 == set % 64)) [
        | inl same_place ↦
            (let k = eqb-true (bit / 64) (set / 64) same in
            let i = eqb-true (bit % 64) (set % 64) same_place in
            let equal : (bit == set) ≡ true = eq-eqb bit set (omega arith) in
            here ∙ rw (same, equal, i) (one-same (set % 64)))
        | inr other ↦
            (let i = eqb-false (bit % 64) (set % 64) other in
            let unequal : (bit == set) ≡ false = apart-eqb bit set (λ is. i (ap (λ n. n % 64) is)) in
            here ∙ rw (same, unequal) (ap (λ n. n == 1) (bit_at-pow_other (set % 64) (bit % 64) i)))
      ]
      | inr other ↦
          (let k = eqb-false (bit / 64) (set / 64) other in
          let unequal : (bit == set) ≡ false = apart-eqb bit set (λ is. k (ap (λ n. n / 64) is)) in
          here ∙ rw (other, unequal) (ap (λ n. n == 1) (bit_at-zero (bit % 64))))
    ]

pub has_bit-filter_of : (v : ℤ) (bit : ℕ) → bit < 256 → has_bit (filter_of v) bit ≡ (bit == bit_of v)
unfolding filter_of alone
has_bit-filter_of v bit low = has_bit-alone (bit_of v) bit low

-- each of these filters has four words of 64 bits
pub IsFilter-full : IsFilter full
unfolding full
IsFilter-full = IsFilter-four (λ k. 2 ^ 64 - 1) (λ k. lit≤ tt)

pub IsFilter-filter_of : (v : ℤ) → IsFilter (filter_of v)
unfolding filter_of
IsFilter-filter_of v =
    IsFilter-four (λ k. if k == bit_of v / 64 then 2 ^ (bit_of v % 64) else 0)
    (λ k. cond_both (k == bit_of v / 64) (2 ^ (bit_of v % 64)) 0 (λ word. word < 2 ^ 64)
    (λ here. pow_below (bit_of v % 64) 64 (omega arith)) (λ elsewhere. lit≤ tt))

word-fits : (filter : Filter) (k : ℕ) → IsFilter filter → word filter k < 2 ^ 64
word-fits filter k sound = elim (cases_lt k (length filter.words)) [
  | inl here ↦ sound.fit k 0 here
  | inr past ↦ (let none = get_or_past filter.words k 0 past in omega arith)
]

pub IsFilter-union : (a b : Filter) → IsFilter a → IsFilter b → IsFilter (union a b)
unfolding union
IsFilter-union a b left right =
    IsFilter-four (λ k. bit_or (word a k) (word b k)) (λ k. or_lt 64 (word a k) (word b k) (word-fits a k left) (word-fits b k right))

-- the same of a value's bit
pub has-union : (a b : Filter) (v : ℤ) → has (union a b) v ≡ (has a v || has b v)
unfolding has
has-union a b v = has_bit-union a b (bit_of v) (bit_of-lt v)

pub has-filter_of : (v : ℤ) → has (filter_of v) v ≡ true
unfolding has
has-filter_of v = has_bit-filter_of v (bit_of v) (bit_of-lt v) ∙ eq-eqb (bit_of v) (bit_of v) refl

pub has-full : (v : ℤ) → has full v ≡ true
unfolding has
has-full v = has_bit-full (bit_of v) (bit_of-lt v)

pub has-point : (p : Point) → has (filter_of_point p) p.1 ≡ true
has-point (t, v, Old) = has-full v
has-point (t, v, New) = has-filter_of v

pub IsFilter-point : (p : Point) → IsFilter (filter_of_point p)
IsFilter-point (t, v, Old) = IsFilter-full
IsFilter-point (t, v, New) = IsFilter-filter_of v

-- a bit that one of two filters has is one of both
pub has-left : (a b : Filter) (v : ℤ) → has a v ≡ true → has (union a b) v ≡ true
has-left a b v left = rw (has-union a b v, left) refl

pub has-right : (a b : Filter) (v : ℤ) → has b v ≡ true → has (union a b) v ≡ true
has-right a b v right = rw (has-union a b v, right) (or-true (has a v))

-- the filter of points has a bit exactly where one of them gives it
has_bit-point : (p : Point) (bit : ℕ) → bit < 256 → has_bit (filter_of_point p) bit ≡ gives bit p
has_bit-point (t, v, Old) bit low = has_bit-full bit low
has_bit-point (t, v, New) bit low = has_bit-filter_of v bit low

has_bit-with : (p : Point) (ps : List Point) (bit : ℕ) → bit < 256
    → has_bit (filter_with (filter_of_point p) ps) bit ≡ list_any (gives bit) (p ∷ ps)
has_bit-with p [] bit low = has_bit-point p bit low ∙ sym (or-false (gives bit p))
has_bit-with p (q ∷ qs) bit low =
    has_bit-union (filter_of_point p) (filter_with (filter_of_point q) qs) bit low
    ∙ ap₂ ◌||◌ (has_bit-point p bit low) (has_bit-with q qs bit low)

has_bit-none : (bit : ℕ) → bit < 256 → has_bit (four (λ k. 0)) bit ≡ false
has_bit-none bit low =
    ap (λ w. bit_at w (bit % 64) == 1) (word-four (λ k. 0) (bit / 64) (omega arith)) ∙ ap (λ n. n == 1) (bit_at-zero (bit % 64))

pub has_bit-summary_of : (points : List Point) (bit : ℕ) → bit < 256 → has_bit (summary_of points).filter bit ≡ list_any (gives bit) points
has_bit-summary_of [] bit low = has_bit-none bit low
has_bit-summary_of (p ∷ ps) bit low = has_bit-with p ps bit low

-- the filter of points has the bit of each of their values
has-at : (v : ℤ) (p : Point) → int_eq p.1 v ≡ true → has (filter_of_point p) v ≡ true
has-at v p same = subst (λ z. has (filter_of_point p) z ≡ true) ((Decides-int_eq p.1 v).0 same) (has-point p)

pub has-value : (v : ℤ) (p : Point) (ps : List Point) → list_any (λ value. int_eq value v) (map (λ (q : Point). q.1) (p ∷ ps)) ≡ true
    → has (filter_with (filter_of_point p) ps) v ≡ true
has-value v p [] there = has-at v p (sym (or-false (int_eq p.1 v)) ∙ there)
has-value v p (q ∷ qs) there = elim (or_cases (int_eq p.1 v) (list_any (λ value. int_eq value v) (map (λ (q : Point). q.1) (q ∷ qs))) there) [
  | inl here ↦ has-left (filter_of_point p) (filter_with (filter_of_point q) qs) v (has-at v p here)
  | inr later ↦ has-right (filter_of_point p) (filter_with (filter_of_point q) qs) v (has-value v q qs later)
]
