-- The tree of bitmaps: a slot is put in or taken out, and the first one outside is found.
use Rattle.std.proofs.Common.{◌≡◌, ◌≢◌, ◌∙◌, sym, ap, ℕ, ◌+◌, ◌*◌, ◌/◌, ◌%◌, ◌^◌, ◌<◌, ◌≤◌, Bool, true, false, cond, not, nat_eq, List, length, count_by}
use Rattle.std.proofs.Common.{get_or, set, replicate, arith, inl, inr, Some, None}
use Rattle.std.proofs.lemmas.Bool.{eq-eqb, ne_eqb, cases_eq, cases_lt, cond-true, cond-false, lt-ltb, le-ltb}
use Rattle.std.proofs.lemmas.List.{get_or-set_same, get_or-set_other, get_or_past, get_or-replicate, length-set, length-replicate, same_lists}
use Rattle.std.proofs.lemmas.List.FromFn.{get_or-map-range_with_len, length-map-range_with_len}
use Rattle.std.proofs.lemmas.List.Sums.{position_or_len_is, sum_by-le, sum_by-set, count_by-le-length, get_or-le-sum_by}
use Rattle.std.proofs.lemmas.Nat.Bits.{bit_at-zero}
use Rattle.std.specs.List.{position, position_or_len}
use Rattle.std.specs.Int.{bit_at}
use Rattle.ss_records.specs.Bits.{is_set, is_full_word}
use Rattle.ss_records.specs.Tree.{members, MarksFullWords, IsTree, FullBefore, IsFirstClear}
use Rattle.ss_records.proofs.BitLemmas.{digit, is_set-full}

pub length-members : (low : List ℕ) → length (members low) ≡ 64 * length low
length-members low = length-map-range_with_len (is_set low) 0 (64 * length low)

pub get_or-members : (low : List ℕ) (slot : ℕ) (d : Bool) → slot < 64 * length low → get_or (members low) slot d ≡ is_set low slot
get_or-members low slot d lt = get_or-map-range_with_len (is_set low) 0 (64 * length low) slot slot d lt (omega arith)

-- what is found from word n on, where the words before it are full
pub first-from : (words : List ℕ) (n place : ℕ) → n < length words → FullBefore n words → place < 64 * n + 64 → is_set words place ≡ false
    → ((j : ℕ) → 64 * n ≤ j → j < place → is_set words j ≡ true) → IsFirstClear words place
first-from words n place lt full within clear before = record {
  below = omega (arith, lt, within);
  clear = clear;
  before = λ j early. elim (cases_lt j (64 * n)) [
    | inl lower ↦ is_set-full words j (full (j / 64) (omega (arith, lower)))
    | inr from ↦ before j from early
  ];
}

-- one level down: the word of the first bit that isn't set is the first word that isn't full
module _ (upper lower : List ℕ) (over : MarksFullWords upper lower) (place : ℕ) (first : IsFirstClear upper place) where
  pub first-word : place < length lower
  first-word = omega (arith, over.words, first.below)

  pub first-room : is_full_word (get_or lower place 0) ≡ false
  first-room = sym (over.full place first-word) ∙ first.clear

  pub first-full : FullBefore place lower
  first-full word lt = sym (over.full word (omega (arith, lt, first-word))) ∙ first.before word lt

pub position-first : (low : List ℕ) (place : ℕ) → IsFirstClear low place → position_or_len not (members low) ≡ place
position-first low place first =
    position_or_len_is not (members low) place false (omega (arith, length-members low, first.below))
    (λ k lt. ap not (get_or-members low k false (omega (arith, lt, first.below)) ∙ first.before k lt))
    (λ lt. ap not (get_or-members low place false first.below ∙ first.clear))

-- where the upper words are full, so are the lower ones
all-full : (upper lower : List ℕ) → MarksFullWords upper lower → FullBefore (length upper) upper → FullBefore (length lower) lower
all-full upper lower over full word lt = sym (over.full word lt) ∙ is_set-full upper word (full (word / 64) (omega (arith, lt, over.words)))

pub position-none : (low middle top : List ℕ) → IsTree low middle top → FullBefore (length top) top → position not (members low) ≡ None
position-none low middle top tree full =
    let lows = all-full middle low tree.over_low (all-full top middle tree.over_middle full) in
    let end : position_or_len not (members low) ≡ length (members low) =
    position_or_len_is not (members low) (length (members low)) false (omega arith)
    (λ k lt. let within : k < 64 * length low = omega (arith, lt, length-members low) in
    ap not (get_or-members low k false within ∙ is_set-full low k (lows (k / 64) (omega (arith, within)))))
    (λ lt. absurd (omega (arith, lt))) in
    cond-false _ _ _ (le-ltb (position_or_len not (members low)) (length (members low)) (omega (arith, end)))

pub position-some : (low : List ℕ) (place : ℕ) → place < 64 * length low → place ≡ position_or_len not (members low) → position not (members low) ≡ Some place
position-some low place below is =
    cond-true _ _ _ (lt-ltb (position_or_len not (members low)) (length (members low)) (omega (arith, below, is, length-members low))) ∙ ap Some (sym is)

-- a bit of the lower words is put, and the bit over its word tells whether it is full
module _ (upper lower new-upper new-lower : List ℕ) (over : MarksFullWords upper lower) (k : ℕ) (full : Bool) where
  pub MarksFullWords-put : length new-lower ≡ length lower → length new-upper ≡ length upper
      → ((n : ℕ) → n ≢ k / 64 → get_or new-lower n 0 ≡ get_or lower n 0) → full ≡ is_full_word (get_or new-lower (k / 64) 0)
      → ((j : ℕ) → is_set new-upper j ≡ cond (nat_eq j (k / 64)) full (is_set upper j)) → MarksFullWords new-upper new-lower
  MarksFullWords-put same-lower same-upper others is bits = record {
    words = omega (arith, same-lower, same-upper, over.words);
    full = λ word lt. elim (cases_eq word (k / 64)) [
      | inl here ↦ bits word ∙ cond-true (nat_eq word (k / 64)) _ _ (eq-eqb word (k / 64) here) ∙ is ∙
          ap (λ (n : ℕ). is_full_word (get_or new-lower n 0)) (sym here)
      | inr other ↦ bits word ∙ cond-false (nat_eq word (k / 64)) _ _ (ne_eqb word (k / 64) other) ∙ over.full word (omega (arith, lt, same-lower))
          ∙ ap is_full_word (sym (others word other))
    ];
  }

-- the set after a bit of the low words is put
pub members-put : (low new : List ℕ) (slot : ℕ) (to : Bool) → length new ≡ length low → slot < 64 * length low
    → ((j : ℕ) → is_set new j ≡ cond (nat_eq j slot) to (is_set low j)) → members new ≡ set (members low) slot to
members-put low new slot to same lt bits =
    same_lists (members new) (set (members low) slot to) (omega (arith, length-members new, length-members low, length-set (members low) slot to, same))
    (λ k d within.
    let below : k < 64 * length low = omega (arith, within, length-members new, same) in
    get_or-members new k d (omega (arith, below, same)) ∙ bits k ∙ elim (cases_eq k slot) [
      | inl here ↦ cond-true (nat_eq k slot) _ _ (eq-eqb k slot here)
          ∙ sym (ap (λ (n : ℕ). get_or (set (members low) slot to) n d) here ∙ get_or-set_same (members low) slot to d (omega (arith, lt, length-members low)))
      | inr other ↦ cond-false (nat_eq k slot) _ _ (ne_eqb k slot other) ∙ sym (get_or-set_other (members low) slot k to d other ∙ get_or-members low k d below)
    ])

-- where a slot lies in each level
module _ (low middle top : List ℕ) (tree : IsTree low middle top) (slot : ℕ) (lt : slot < 64 * length low) where
  pub in_low : slot / 64 < length low
  in_low = omega (arith, lt)

  pub in_middle : slot / 64 / 64 < length middle
  in_middle = omega (arith, in_low, tree.over_low.words)

  pub in_top : slot / 64 / 64 / 64 < length top
  in_top = omega (arith, in_middle, tree.over_middle.words)

-- how many slots there are at most
pub length-members-most : (low middle top : List ℕ) → IsTree low middle top → length (members low) ≤ 2 ^ 20
length-members-most low middle top tree = omega (arith, length-members low, tree.over_low.words, tree.over_middle.words, tree.few)

-- words without a bit set
abbrev pub zero_words : ℕ → List ℕ
zero_words n = replicate n 0

length-zeros : (n : ℕ) → length (zero_words n) ≡ n
length-zeros n = length-replicate {A = ℕ} n 0

get_or-zeros : (n k : ℕ) → get_or (zero_words n) k 0 ≡ 0
get_or-zeros n k =
    elim (cases_lt k n) [
      | inl below ↦ get_or-replicate {A = ℕ} n k 0 0 below
      | inr past ↦ get_or_past (zero_words n) k 0 (omega (arith, length-zeros n))
    ]

is_set-zeros : (n k : ℕ) → is_set (zero_words n) k ≡ false
is_set-zeros n k = ap (λ (w : ℕ). nat_eq (bit_at w (k % 64)) 1) (get_or-zeros n (k / 64)) ∙ ap (λ (bit : ℕ). nat_eq bit 1) (bit_at-zero (k % 64))

MarksFullWords-zeros : (n : ℕ) → MarksFullWords (zero_words n) (zero_words (64 * n))
MarksFullWords-zeros n = record {
  words = omega (arith, length-zeros n, length-zeros (64 * n));
  full = λ word lt. is_set-zeros n word ∙ sym (ap is_full_word (get_or-zeros (64 * n) word));
}

pub IsTree-zeros : (n : ℕ) → n ≤ 4 → IsTree (zero_words (4096 * n)) (zero_words (64 * n)) (zero_words n)
IsTree-zeros n few = record {
  few = omega (arith, few, length-zeros n);
  over_low = let same : 64 * (64 * n) ≡ 4096 * n = omega arith in
      rw same at (MarksFullWords-zeros (64 * n));
  over_middle = MarksFullWords-zeros n;
}

pub length-members-zeros : (n : ℕ) → length (members (zero_words n)) ≡ 64 * n
length-members-zeros n = omega (arith, length-members (zero_words n), length-zeros n)

pub members-zeros : (n k : ℕ) (d : Bool) → k < length (members (zero_words n)) → get_or (members (zero_words n)) k d ≡ false
members-zeros n k d lt = get_or-members (zero_words n) k d (omega (arith, lt, length-members (zero_words n))) ∙ is_set-zeros n k

pub count-zeros : (n : ℕ) → count_by (λ is. is) (members (zero_words n)) ≡ 0
count-zeros n =
    let none = sum_by-le digit 0 (members (zero_words n)) (λ k d lt. rw (members-zeros n k d lt) (omega arith)) in
    omega (arith, none)

-- the number of slots in the set, after one of them is put
module _ (low : List ℕ) (slot : ℕ) (lt : slot < 64 * length low) where
  pub count-some : is_set low slot ≡ true → 1 ≤ count_by (λ is. is) (members low)
  count-some is = omega (
    arith,
    get_or-le-sum_by digit (members low) slot false (omega (arith, lt, length-members low)),
    ap digit
        (get_or-members low slot false lt ∙ is),
  )

  pub count-put : (to : Bool) (count new : ℕ) → count ≡ count_by (λ is. is) (members low)
      → new + digit (is_set low slot) ≡ count + digit to → new ≡ count_by (λ is. is) (set (members low) slot to)
  count-put to count new was is =
      omega (arith, was, is, sum_by-set digit (members low) slot to false (omega (arith, lt, length-members low)), ap digit (get_or-members low slot false lt))

-- no more are in the set than there are
pub length-count : (set : List Bool) → count_by (λ is. is) set ≤ length set
length-count set = count_by-le-length (λ (is : Bool). is) set
