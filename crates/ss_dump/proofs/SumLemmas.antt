-- From a state of a checksum back to four bytes that lead to it.
use Rattle.std.proofs.Common.{◌≡◌, ◌∙◌, refl, sym, ap, ap₂, ℕ, ◌+◌, ◌-◌, ◌*◌, ◌/◌, ◌%◌, ◌^◌, ◌<◌, ◌≤◌, List, [], ◌∷◌, ◌++◌, arith, lit<}
use Rattle.std.specs.Prelude.{bit_xor}
use Rattle.std.specs.Int.Bits.{xor_assoc, xor_self, xor_zero_l, xor_zero_r}
use Rattle.std.proofs.lemmas.List.Elements.{All-cons, All-nil}
use Rattle.std.proofs.lemmas.List.Sums.{fold-append}
use Rattle.std.proofs.lemmas.Nat.{xor_comm, xor_lt}
use Rattle.ss_checksum.specs.Checksum.{after_bit, after_bits, after_byte, after_bytes, checksum}
use Rattle.ss_checksum.specs.Codeword.{check_bytes}
use Rattle.ss_checksum.proofs.ChangeLemmas.{AreBytes, after_bytes-is}
use Rattle.ss_checksum.proofs.CodewordLemmas.{number_of_bytes-check}
use Rattle.ss_checksum.proofs.StepLemmas.{xor_parts, xor_swap}

-- the generator, and its bits below the highest
abbrev generator : ℕ
generator = 2197175160

abbrev lower : ℕ
lower = 49691512

abbrev pub ones : ℕ
ones = 2 ^ 32 - 1

-- with the highest bit set, the generator takes it away
halves-meet : (r : ℕ) → r < 2 ^ 31 → bit_xor (2 ^ 31 + r) generator ≡ bit_xor r lower
halves-meet r small =
    let high : bit_xor (2 ^ 31) r ≡ 2 ^ 31 + r = xor_parts 1 31 r small in
    ap₂ bit_xor (sym high) refl
    ∙ xor_swap (2 ^ 31) r (2 ^ 31) lower
    ∙ ap (λ x. bit_xor x (bit_xor r lower)) (xor_self (2 ^ 31))
    ∙ xor_zero_l (bit_xor r lower)

pub high-falls : (t : ℕ) → 2 ^ 31 ≤ t → t < 2 ^ 32 → bit_xor t generator < 2 ^ 31
high-falls t high fits =
    let r = t - 2 ^ 31 in
    let small : r < 2 ^ 31 = omega (arith, high, fits) in
    let whole : 2 ^ 31 + r ≡ t = omega (arith, high) in
    let met : bit_xor t generator ≡ bit_xor r lower = ap (λ x. bit_xor x generator) (sym whole) ∙ halves-meet r small in
    rw met (xor_lt 31 r lower small (lit< tt))

-- a number moved up by a bit, with this bit behind it
moved_up-half : (x b : ℕ) → b < 2 → (x * 2 + b) / 2 ≡ x
moved_up-half x b bit = omega (arith, bit)

moved_up-last : (x b : ℕ) → b < 2 → (x * 2 + b) % 2 ≡ b
moved_up-last x b bit = omega (arith, bit)

-- the steps from the numbers before one
pub from-high : (t : ℕ) → after_bit (bit_xor t generator * 2 + 1) ≡ t
from-high t =
    let x = bit_xor t generator in
    ap₂ (λ half last. bit_xor half (last * generator)) (moved_up-half x 1 (lit< tt)) (moved_up-last x 1 (lit< tt))
    ∙ xor_assoc t generator generator
    ∙ ap (bit_xor t) (xor_self generator)
    ∙ xor_zero_r t

pub from-low : (t : ℕ) → after_bit (t * 2) ≡ t
from-low t =
    let half : t * 2 / 2 ≡ t = omega arith in
    let last : t * 2 % 2 ≡ 0 = omega arith in
    ap₂ (λ half last. bit_xor half (last * generator)) half last ∙ xor_zero_r t

-- what was turned twice is as before
pub turned-twice : (word mask : ℕ) → bit_xor mask (bit_xor word mask) ≡ word
turned-twice word mask =
    ap (bit_xor mask) (xor_comm word mask) ∙ sym (xor_assoc mask mask word) ∙ ap (λ x. bit_xor x word) (xor_self mask) ∙ xor_zero_l word

-- its bytes have eight bits
check_bytes-are : (word : ℕ) → AreBytes (check_bytes word)
check_bytes-are word =
    let P : ℕ → Type 0 = λ x. x < 2 ^ 8 in
    let below : (n : ℕ) → n % 256 < 2 ^ 8 = λ n. omega arith in
    let one = word / 256 ^ 1 in
    let two = word / 256 ^ 2 in
    let three = word / 256 ^ 3 in
    All-cons P (word % 256) (one % 256 ∷ two % 256 ∷ three % 256 ∷ []) (below word)
    (All-cons P (one % 256) (two % 256 ∷ three % 256 ∷ []) (below one)
    (All-cons P (two % 256) (three % 256 ∷ []) (below two) (All-cons P (three % 256) [] (below three) (All-nil P))))

-- the steps over four bytes that lead to a state
pub front-steps : (word state : ℕ) → word < 2 ^ 32 → after_bits 32 (bit_xor ones word) ≡ state → after_bytes ones (check_bytes word) ≡ state
front-steps word state small leads =
    after_bytes-is ones (check_bytes word) (check_bytes-are word)
    ∙ ap (λ n. after_bits 32 (bit_xor ones n)) (number_of_bytes-check word small)
    ∙ leads

-- so the checksum goes on from there
pub goes-on : (word sum : ℕ) (front bytes : List ℕ) → word < 2 ^ 32 → after_bits 32 (bit_xor ones word) ≡ bit_xor sum ones →
    sum ≡ checksum front → checksum (check_bytes word ++ bytes) ≡ checksum (front ++ bytes)
unfolding checksum
goes-on word sum front bytes small leads is =
    let state : after_bytes ones (check_bytes word) ≡ after_bytes ones front =
    front-steps word (bit_xor sum ones) small leads ∙ ap (λ x. bit_xor x ones) is
    ∙ xor_assoc (after_bytes ones front) ones ones ∙ ap (bit_xor (after_bytes ones front)) (xor_self ones) ∙ xor_zero_r (after_bytes ones front) in
    ap (λ x. bit_xor x ones)
    (fold-append after_byte ones (check_bytes word) bytes ∙ ap (λ s. after_bytes s bytes) state ∙ sym (fold-append after_byte ones front bytes))
