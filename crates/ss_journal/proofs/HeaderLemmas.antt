-- The header: whether a file is formatted, and how that is read.
use Rattle.ss_journal.proofs.Common.{IsFalse, IsTrue, List, [], ap, arith, drop, inl, inr, length, nat_eq, nat_le, not, refl, rules, suc, sym, take, ℕ}
use Rattle.ss_journal.proofs.Common.{◌&&◌, ◌+◌, ◌<◌, ◌==◌, ◌||◌, ◌∙◌, ◌∷◌, ◌≡◌, ◌≤◌, ◌⊎◌, Bool, cond, zero-add, nat_tests, cond-false, cond-true, and_from}
use Rattle.ss_journal.proofs.Common.{and_parts, both_ways, eq-eqb, eqb-true, false_from_ne_true, le-leb, leb-true, ne_eqb, not-true, not_from_false, or_cases}
use Rattle.ss_journal.proofs.Common.{or_left, or_right, All-head, All-tail, ext_get_or, get_or-drop, get_or-take, length-drop, length-take, All, slice_index}
use Rattle.ss_journal.proofs.Common.{IsReadFrom, Kind, Plain, Checked, has_magic, has_magic_of, magic, opens}
use Rattle.std.proofs.Common.{eqb}
use Rattle.std.proofs.lemmas.Bool.{and_left}
use Rattle.std.proofs.lemmas.Grind.{get_or_after_one, same_number_lists}
use Rattle.std.proofs.lemmas.List.Elements.{All-from_recursion}
use Rattle.std.specs.Cmp.Lexicographic.{pointwise}
use lib.Pointwise.{pointwise, pointwise_long}
use Rattle.ss_journal.specs.Format.{is_born, is_unborn, kind_of}
use Rattle.ss_journal.specs.Opening.{IsHead}

-- a piece of two lists that agree there is the same
pub piece-same : (old new : List ℕ) (at count : ℕ) → at + count ≤ length old → at + count ≤ length new
    → ((place : ℕ) → at ≤ place → place < at + count → slice_index new place ≡ slice_index old place)
    → take count (drop at new) ≡ take count (drop at old)
piece-same old new at count fits also same =
    ext_get_or 0 (take count (drop at new)) (take count (drop at old))
    (omega (arith, length-take count (drop at new), length-take count (drop at old), length-drop at new, length-drop at old))
    (λ i lt. let within : i < count = omega (arith, lt, length-take count (drop at new)) in
    get_or-take count (drop at new) i 0 within ∙ get_or-drop at new i 0 ∙ same (at + i) (omega arith) (omega (arith, within)) ∙ sym (get_or-drop at old i 0)
    ∙ sym (get_or-take count (drop at old) i 0 within))

-- the magic is eight places
pub has_magic-same : (old new : List ℕ) → 9 ≤ length old → 9 ≤ length new
    → ((place : ℕ) → 1 ≤ place → place < 9 → slice_index new place ≡ slice_index old place) → has_magic new ≡ has_magic old
has_magic-same old new fits also same =
    ap (λ (piece : List ℕ). pointwise nat_eq (magic Plain) piece || pointwise nat_eq (magic Checked) piece) (piece-same old new 1 8 fits also same)

-- and tells the kind
pub kind_of-same : (old new : List ℕ) → 9 ≤ length old → 9 ≤ length new
    → ((place : ℕ) → 1 ≤ place → place < 9 → slice_index new place ≡ slice_index old place) → kind_of new ≡ kind_of old
unfolding kind_of
kind_of-same old new fits also same =
    ap (λ (piece : List ℕ). cond (pointwise nat_eq (magic Checked) piece) Checked Plain) (piece-same old new 1 8 fits also same)

-- the magic has eight places
pub long-has_magic_of : (kind : Kind) (image : List ℕ) → IsTrue (has_magic_of kind image) → 9 ≤ length image
long-has_magic_of Plain image there =
    omega (arith, pointwise_long nat_eq (magic Plain) (take 8 (drop 1 image)) there, length-take 8 (drop 1 image), length-drop 1 image)
long-has_magic_of Checked image there =
    omega (arith, pointwise_long nat_eq (magic Checked) (take 8 (drop 1 image)) there, length-take 8 (drop 1 image), length-drop 1 image)

pub long-has_magic : (image : List ℕ) → IsTrue (has_magic image) → 9 ≤ length image
long-has_magic image there = elim (or_cases (has_magic_of Plain image) (has_magic_of Checked image) there) [
  | inl plain ↦ long-has_magic_of Plain image plain
  | inr checked ↦ long-has_magic_of Checked image checked
]

pub kind_of-checked : (image : List ℕ) → IsTrue (has_magic_of Checked image) → kind_of image ≡ Checked
unfolding kind_of
kind_of-checked image there = cond-true _ _ _ there

pub kind_of-other : (image : List ℕ) → IsFalse (has_magic_of Checked image) → kind_of image ≡ Plain
unfolding kind_of
kind_of-other image other = cond-false _ _ _ other

-- a short file is of no checked store
pub kind_of-short : (image : List ℕ) → length image < 9 → kind_of image ≡ Plain
unfolding kind_of
kind_of-short image short = cond-false _ _ _ (false_from_ne_true (has_magic_of Checked image)
    (λ there. omega (arith, short, long-has_magic_of Checked image there)))

-- the parts of a formatted file
pub is_born-parts : (image : List ℕ) → IsTrue (is_born image)
    → (36864 ≤ length image) × IsTrue (opens (slice_index image 0)) × IsTrue (has_magic image)
unfolding is_born
is_born-parts image born =
    let long_gate = and_parts (nat_le 36864 (length image) && opens (slice_index image 0)) (has_magic image) born in
    let parts = and_parts (nat_le 36864 (length image)) (opens (slice_index image 0)) long_gate.0 in
    (leb-true 36864 (length image) parts.0, parts.1, long_gate.1)

pub is_born-from : (image : List ℕ) → 36864 ≤ length image → IsTrue (opens (slice_index image 0)) → IsTrue (has_magic image) → IsTrue (is_born image)
unfolding is_born
is_born-from image long gate magic =
    and_from _ _ (and_from _ _ (le-leb 36864 (length image) long) gate) magic

-- a formatted file whose first places stay is formatted
pub is_born-same : (content image : List ℕ) → IsTrue (is_born content) → length image ≡ length content
    → ((place : ℕ) → place < 9 → slice_index image place ≡ slice_index content place) → IsTrue (is_born image)
is_born-same content image born long same =
    let was = is_born-parts content born in
    is_born-from image (omega (arith, long, was.0)) (rw (same 0 (omega arith)) was.1)
    (has_magic-same content image (omega (arith, was.0)) (omega (arith, long, was.0)) (λ place low high. same place high) ∙ was.2)

-- a formatted file isn't an unformatted one
pub is_unborn-born : (image : List ℕ) → IsTrue (is_born image) → IsFalse (is_unborn image)
unfolding is_unborn is_born
is_unborn-born image born = grind (arith, nat_tests, born)

-- an unformatted file isn't a formatted one
pub is_born-unborn : (content : List ℕ) → IsTrue (is_unborn content) → IsFalse (is_born content)
is_born-unborn content unborn = false_from_ne_true (is_born content) (λ born. both_ways (is_unborn content) (is_unborn-born content born) unborn)

-- the ways in which a file isn't formatted
pub is_unborn-short : (image : List ℕ) → length image ≤ 1 → IsTrue (is_unborn image)
unfolding is_unborn
is_unborn-short image short = or_left _ _ (or_left _ _ (le-leb (length image) 1 short))

pub is_unborn-zero : (image : List ℕ) → slice_index image 0 ≡ 0 → IsTrue (is_unborn image)
unfolding is_unborn
is_unborn-zero image zero = or_left _ _ (or_right _ _ (eq-eqb (slice_index image 0) 0 zero))

pub is_unborn-gate : (image : List ℕ) → IsTrue (has_magic image) → IsFalse (opens (slice_index image 0)) → IsTrue (is_unborn image)
unfolding is_unborn
is_unborn-gate image magic closed = or_right _ _ (and_from _ _ magic (not_from_false _ closed))

pub is_unborn-cases : (image : List ℕ) → IsTrue (is_unborn image)
    → (length image ≤ 1) ⊎ ((slice_index image 0 ≡ 0) ⊎ (IsTrue (has_magic image) × IsFalse (opens (slice_index image 0))))
unfolding is_unborn
is_unborn-cases image unborn = elim (or_cases (nat_le (length image) 1 || slice_index image 0 == 0) (has_magic image && not (opens (slice_index image 0)))
    unborn) [
      | inl early ↦ elim (or_cases (nat_le (length image) 1) (slice_index image 0 == 0) early) [
        | inl short ↦ inl (leb-true (length image) 1 short)
        | inr zero ↦ inr (inl (eqb-true (slice_index image 0) 0 zero))
      ]
      | inr late ↦ let parts = and_parts (has_magic image) (not (opens (slice_index image 0))) late in inr (inr (parts.0, not-true _ parts.1))
    ]

-- a buffer that was filled from within the file is that piece of it
pub read-piece : (content buffer : List ℕ) (at count : ℕ) → length buffer ≡ count → at + count ≤ length content → IsReadFrom content at buffer
    → buffer ≡ take count (drop at content)
read-piece content buffer at count long within read =
    same_number_lists buffer (take count (drop at content)) (simp (length-take, length-drop) (omega arith))
    (λ k lt. let below : k < count = omega arith in read k lt ∙ sym (get_or-take count (drop at content) k 0 below ∙ get_or-drop at content k 0))

-- a list of a text's length tells whether the text stands at the front, where zeros stand for what is past the end
pointwise-front : (text front whole : List ℕ) → All (λ byte. 0 < byte) text → length front ≡ length text
    → ((k : ℕ) → k < length front → slice_index front k ≡ slice_index whole k)
    → pointwise eqb text front ≡ pointwise eqb text (take (length text) whole)
pointwise-front [] [] whole some long same = refl
pointwise-front [] (x ∷ front) whole some long same = absurd (omega arith)
pointwise-front (byte ∷ text) [] whole some long same = absurd (omega arith)
pointwise-front (byte ∷ text) (x ∷ front) [] some long same =
    let zero_here : x ≡ 0 = same 0 (omega arith) in
    let above = All-head (λ (b : ℕ). 0 < b) byte text some in
    and_left _ _ (ne_eqb byte x (λ is. omega arith))
pointwise-front (byte ∷ text) (x ∷ front) (y ∷ whole) some long same =
    let here : x ≡ y = same 0 (omega arith) in
    let rest = pointwise-front text front whole (All-tail (λ (b : ℕ). 0 < b) byte text some) (omega arith) (λ k lt. same (suc k) (omega arith)) in
    rw (here, rest) refl

magic-some : (kind : Kind) → All (λ byte. 0 < byte) (magic kind)
magic-some Plain = All-from_recursion (λ (b : ℕ). 0 < b) (magic Plain) (search rules)
magic-some Checked = All-from_recursion (λ (b : ℕ). 0 < b) (magic Checked) (search rules)

pub length-magic : (kind : Kind) → length (magic kind) ≡ 8
length-magic Plain = refl
length-magic Checked = refl

-- nine bytes tell whether the magic stands
module _ (size : ℕ) (first image : List ℕ) (head : IsHead size first image) where
  has_magic-eight : (text : List ℕ) → All (λ byte. 0 < byte) text → length text ≡ 8
      → pointwise nat_eq text (take 8 (drop 1 first)) ≡ pointwise nat_eq text (take (length text) (drop 1 image))
  has_magic-eight text some long =
      pointwise-front text (take 8 (drop 1 first)) (drop 1 image) some (simp (length-take, length-drop) (omega (arith, head.nine, long)))
      (λ k lt.
      let below : k < 8 = omega (arith, length-take 8 (drop 1 first)) in
      let same = head.bytes (1 + k) (omega (arith, head.nine)) ∙ ap (slice_index image) (zero-add (1 + k)) in
      get_or-take 8 (drop 1 first) k 0 below ∙ get_or_after_one first k 0 ∙ same ∙ sym (get_or_after_one image k 0))

  pub has_magic_of-head : (kind : Kind) → has_magic_of kind first ≡ has_magic_of kind image
  has_magic_of-head Plain = has_magic-eight (magic Plain) (magic-some Plain) (length-magic Plain)
  has_magic_of-head Checked = has_magic-eight (magic Checked) (magic-some Checked) (length-magic Checked)

  pub kind_of-head : kind_of first ≡ kind_of image
  unfolding kind_of
  kind_of-head = ap (λ (there : Bool). cond there Checked Plain) (has_magic_of-head Checked)

-- and the rest that tells whether the file is formatted
pub is_born-head : (size : ℕ) (first image : List ℕ) → IsHead size first image
    → is_born image ≡ (nat_le 36864 size && opens (slice_index first 0) && has_magic image)
unfolding is_born
is_born-head size first image head =
    let long = head.whole in
    let gate = head.bytes 0 (omega (arith, head.nine)) in
    rw (long, gate) refl

pub is_unborn-head : (size : ℕ) (first image : List ℕ) → IsHead size first image
    → is_unborn image ≡ (nat_le size 1 || slice_index first 0 == 0 || (has_magic image && not (opens (slice_index first 0))))
unfolding is_unborn
is_unborn-head size first image head =
    let long = head.whole in
    let gate = head.bytes 0 (omega (arith, head.nine)) in
    rw (long, gate) refl
