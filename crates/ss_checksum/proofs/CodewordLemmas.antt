-- The steps over bytes that end with their checksum always lead to the same number. So two such differ by one that the steps make nothing of.
use Rattle.std.proofs.Common.{◌≡◌, ◌∙◌, inl, inr, refl, sym, ap, ℕ, ◌+◌, ◌-◌, ◌*◌, ◌^◌, ◌<◌, ◌≤◌, List, [], ◌∷◌, ◌++◌, length, drop, take, length-append, arith}
use Rattle.std.proofs.Common.{lit<, lit≤}
use Rattle.std.specs.Prelude.{bit_xor}
use Rattle.std.specs.Int.Bits.{xor_assoc, xor_self, xor_zero_l}
use Rattle.std.proofs.Math.Nat.{mul-le-mul_right, pow-le-pow_right}
use Rattle.std.proofs.Math.Seq.{drop-append_seam, take-append_seam}
use Rattle.std.proofs.lemmas.Bool.{cases_eq}
use Rattle.std.proofs.lemmas.List.{take-append-drop}
use Rattle.std.proofs.lemmas.List.Elements.{All-drop, All-head, All-tail, All-take}
use Rattle.std.proofs.lemmas.List.Sums.{fold-append}
use Rattle.std.proofs.lemmas.Nat.{xor_comm, xor_lt}
use Rattle.ss_checksum.specs.Changes.{AreAsLong, difference, number_of_bytes}
use Rattle.ss_checksum.specs.Checksum.{after_bits, after_byte, after_bytes, checksum}
use Rattle.ss_checksum.specs.Codeword.{IsChecked, check_bytes}
use Rattle.ss_checksum.proofs.StepLemmas.{after_bits-lt, after_bits-some, after_bits-xor, from_none, xor_cancel}
use Rattle.ss_checksum.proofs.ChangeLemmas.{AreBytes, after_bytes-is, below_power, bits_of, bits_of-is, bits_of-same, difference-lt, moved_down}
use Rattle.ss_checksum.proofs.ChangeLemmas.{number_of_bytes-lt}
use Rattle.ss_checksum.proofs.ChangeLemmas.{number_of_bytes-same}

abbrev ones : ℕ
ones = 2 ^ 32 - 1

pub number_of_bytes-check : (sum : ℕ) → sum < 2 ^ 32 → number_of_bytes (check_bytes sum) ≡ sum
number_of_bytes-check sum few = omega arith

before-bytes : (xs ys : List ℕ) → AreBytes (xs ++ ys) → AreBytes xs
before-bytes xs ys bytes = rw take-append_seam at (All-take (λ x. x < 2 ^ 8) (length xs) (xs ++ ys) bytes)

behind-bytes : (xs ys : List ℕ) → AreBytes (xs ++ ys) → AreBytes ys
behind-bytes xs ys bytes = rw drop-append_seam at (All-drop (λ x. x < 2 ^ 8) (length xs) (xs ++ ys) bytes)

after_bytes-lt : (state : ℕ) (xs : List ℕ) → state < 2 ^ 32 → AreBytes xs → after_bytes state xs < 2 ^ 32
after_bytes-lt state [] few bytes = few
after_bytes-lt state (x ∷ xs) few bytes =
    let first : x < 2 ^ 8 = All-head (λ x. x < 2 ^ 8) x xs bytes in
    let next : after_byte state x < 2 ^ 32 = after_bits-lt 32 8 (bit_xor state x) (lit≤ tt) (xor_lt 32 state x few (omega (arith, first))) in
    after_bytes-lt (after_byte state x) xs next (All-tail (λ x. x < 2 ^ 8) x xs bytes)

-- where they lead, whatever the bytes are
pub residue : (front xs : List ℕ) → AreBytes front → AreBytes xs → IsChecked front xs
    → after_bytes (after_bytes ones front) xs ≡ after_bits 32 ones
unfolding checksum
residue front xs front_bytes bytes checked =
    let covered = checked.covered in
    let start = after_bytes ones front in
    let state = after_bytes start covered in
    let sum = checksum (front ++ covered) in
    let parts : AreBytes (covered ++ check_bytes sum) = rw checked.are at bytes in
    let small : state < 2 ^ 32 =
    after_bytes-lt start covered (after_bytes-lt ones front (lit< tt) front_bytes) (before-bytes covered (check_bytes sum) parts) in
    let sum_is : sum ≡ bit_xor state ones = ap (λ s. bit_xor s ones) (fold-append after_byte ones front covered) in
    let few : sum < 2 ^ 32 = rw sum_is (xor_lt 32 state ones small (lit< tt)) in
    let turned : bit_xor state sum ≡ ones =
    ap (bit_xor state) sum_is ∙ sym (xor_assoc state state ones) ∙ ap (λ s. bit_xor s ones) (xor_self state) ∙ xor_zero_l ones in
    ap (after_bytes start) checked.are
    ∙ fold-append after_byte start covered (check_bytes sum)
    ∙ after_bytes-is state (check_bytes sum) (behind-bytes covered (check_bytes sum) parts)
    ∙ ap (λ n. after_bits 32 (bit_xor state n)) (number_of_bytes-check sum few)
    ∙ ap (after_bits 32) turned

-- numbers that lead to one, with the same in both, differ by one that the steps make nothing of
nothing-left : (k a b c : ℕ) → after_bits k (bit_xor a c) ≡ after_bits k (bit_xor b c) → after_bits k (bit_xor a b) ≡ 0
nothing-left k a b c same =
    ap (after_bits k) (sym (xor_cancel a b c))
    ∙ after_bits-xor k (bit_xor a c) (bit_xor b c)
    ∙ ap (λ x. bit_xor x (after_bits k (bit_xor b c))) same
    ∙ xor_self (after_bits k (bit_xor b c))

-- so they are one where they have 32 bits
same-before : (k a b c : ℕ) → a < 2 ^ 32 → b < 2 ^ 32 → after_bits k (bit_xor a c) ≡ after_bits k (bit_xor b c) → a ≡ b
same-before k a b c few few_too same =
    elim (cases_eq (bit_xor a b) 0) [
      | inl none ↦ from_none a b none
      | inr some ↦
          let left = after_bits-some k (bit_xor a b) (omega (arith, some)) (xor_lt 32 a b few few_too) in
          absurd (omega (arith, left, nothing-left k a b c same))
    ]

-- where the steps over bytes lead, as steps over their number
residue-bits : (front xs : List ℕ) → AreBytes front → AreBytes xs → IsChecked front xs
    → after_bits (bits_of xs) (bit_xor (after_bytes ones front) (number_of_bytes xs)) ≡ after_bits 32 ones
residue-bits front xs front_bytes bytes checked = sym (after_bytes-is (after_bytes ones front) xs bytes) ∙ residue front xs front_bytes bytes checked

-- bytes with their checksum, and others that differ by what the steps leave something of
pub checked-apart : (front xs ys : List ℕ) → AreBytes front → AreAsLong xs ys → IsChecked front xs → 0 < after_bits (bits_of xs) (difference xs ys)
    → ¬ IsChecked front ys
checked-apart front xs ys front_bytes long checked some other =
    let start = after_bytes ones front in
    let turned = λ (k : ℕ) (n : ℕ). ap (after_bits k) (xor_comm n start) in
    let here = turned (bits_of xs) (number_of_bytes xs) ∙ residue-bits front xs front_bytes long.bytes checked in
    let there = turned (bits_of ys) (number_of_bytes ys) ∙ residue-bits front ys front_bytes long.others other in
    let there_too = rw (bits_of-same xs ys long.same) at there in
    let none = nothing-left (bits_of xs) (number_of_bytes xs) (number_of_bytes ys) start (here ∙ sym there_too) in
    omega (arith, none, some)

pub bursts : (front xs ys : List ℕ) (run at : ℕ) → AreBytes front → AreAsLong xs ys → IsChecked front xs → 0 < run → run < 2 ^ 32
    → difference xs ys ≡ run * 2 ^ at → ¬ IsChecked front ys
bursts front xs ys run at front_bytes long checked some few is =
    let n = bits_of xs in
    let least : 1 * 2 ^ at ≤ run * 2 ^ at = mul-le-mul_right (2 ^ at) some in
    let inside : at < n = below_power at n (omega (arith, least, is, difference-lt xs ys long)) in
    let left : after_bits n (difference xs ys) ≡ after_bits (n - at) run = ap (after_bits n) is ∙ moved_down n at run (omega (arith, inside)) in
    checked-apart front xs ys front_bytes long checked (omega (arith, left, after_bits-some (n - at) run some few))

front-few : (front : List ℕ) → AreBytes front → length front ≤ 4 → number_of_bytes front < 2 ^ 32
front-few front bytes short =
    let few : bits_of front ≤ 32 = omega (arith, bits_of-is front, short) in
    let room : 2 ^ bits_of front ≤ 2 ^ 32 = pow-le-pow_right {n = 2} (lit≤ tt) few in
    omega (arith, room, number_of_bytes-lt front bytes)

pub fronts : (front other bytes : List ℕ) → AreAsLong front other → length front ≤ 4 → AreBytes bytes
    → IsChecked front bytes → IsChecked other bytes → other ≡ front
fronts front other bytes long short are checked checked_too =
    let one = after_bytes ones front in
    let two = after_bytes ones other in
    let led = residue-bits front bytes long.bytes are checked ∙ sym (residue-bits other bytes long.others are checked_too) in
    let small = after_bytes-lt ones front (lit< tt) long.bytes in
    let small_too = after_bytes-lt ones other (lit< tt) long.others in
    let states : one ≡ two = same-before (bits_of bytes) one two (number_of_bytes bytes) small small_too led in
    let turned = λ (k : ℕ) (n : ℕ). ap (after_bits k) (xor_comm n ones) in
    let here = turned (bits_of front) (number_of_bytes front) ∙ sym (after_bytes-is ones front long.bytes) in
    let there = turned (bits_of other) (number_of_bytes other) ∙ sym (after_bytes-is ones other long.others) in
    let there_too = rw (bits_of-same front other long.same) at there in
    let few = front-few front long.bytes short in
    let few_too = front-few other long.others (omega (arith, short, long.same)) in
    let numbers = same-before (bits_of front) (number_of_bytes front) (number_of_bytes other) ones few few_too (here ∙ states ∙ sym there_too) in
    number_of_bytes-same front other long numbers

-- the last four bytes are the checksum of a front and of the others
pub checked-end : (front bytes : List ℕ) (n : ℕ) → length bytes ≡ n + 4 → IsChecked front bytes → drop n bytes ≡ check_bytes (checksum (front ++ take n bytes))
checked-end front bytes n long checked =
    let sum = check_bytes (checksum (front ++ checked.covered)) in
    let whole : length bytes ≡ length checked.covered + 4 = ap length checked.are ∙ length-append checked.covered sum in
    let cut : n ≡ length checked.covered = omega (arith, long, whole) in
    rw (cut, checked.are, drop-append_seam, take-append_seam) refl

pub checked-of_end : (front bytes : List ℕ) (n : ℕ) → drop n bytes ≡ check_bytes (checksum (front ++ take n bytes)) → IsChecked front bytes
checked-of_end front bytes n end = record { covered = take n bytes; are = sym (take-append-drop n bytes) ∙ ap (λ sum. take n bytes ++ sum) end }
