-- Four bytes as one number, and pieces of a list one after the other.
use Rattle.std.proofs.Common.{◌≡◌, ◌∙◌, sym, ap, ap₂, ℕ, zero, suc, ◌+◌, ◌*◌, ◌^◌, ◌<◌, List, length, get_or, take, drop, drop-drop, arith}
use Rattle.std.specs.Int.{w32, from_le_bytes}
use Rattle.std.specs.Int.Bits.{xor_assoc}
use Rattle.std.specs.Prelude.{bit_xor, fold}
use Rattle.std.specs.Simd.{first_chunks}
use Rattle.std.proofs.lemmas.List.{take-append-drop}
use Rattle.std.proofs.lemmas.List.Elements.{All-from_get_or}
use Rattle.std.proofs.lemmas.List.Sums.{fold-append}
use Rattle.std.proofs.lemmas.Nat.{le_bytes_4, xor_comm}
use Rattle.ss_checksum.specs.Changes.{number_of_bytes}
use Rattle.ss_checksum.specs.Checksum.{after_bits, after_bytes}
use Rattle.ss_checksum.proofs.ChangeLemmas.{AreBytes, after_bytes-is, bits_of, bits_of-is}
use Rattle.ss_checksum.proofs.CodewordLemmas.{number_of_bytes-check}
use Rattle.ss_checksum.proofs.StepLemmas.{after_bits-add, after_bits-xor}

-- what is known of four bytes that were read as a number
pub record IsWord (bytes : List ℕ) (word : ℕ) : Type 0 where
  pub four : length bytes ≡ 4
  pub fits : (i : ℕ) → get_or bytes i 0 < 256
  pub small : word < 2 ^ 32
  pub is : word ≡ from_le_bytes w32 bytes

word-number : (bytes : List ℕ) (word : ℕ) → IsWord bytes word → number_of_bytes bytes ≡ word
word-number bytes word read = ap number_of_bytes (sym (le_bytes_4 bytes word read.four read.fits read.is)) ∙ number_of_bytes-check word read.small

word-bytes : (bytes : List ℕ) (word : ℕ) → IsWord bytes word → AreBytes bytes
word-bytes bytes word read = All-from_get_or (λ x. x < 2 ^ 8) bytes 0 (λ i inside. read.fits i)

pub word-steps : (state : ℕ) (bytes : List ℕ) (word : ℕ) → IsWord bytes word → after_bits 32 (bit_xor state word) ≡ after_bytes state bytes
word-steps state bytes word read =
    let bits : 32 ≡ bits_of bytes = omega (arith, bits_of-is bytes, read.four) in
    ap₂ (λ k n. after_bits k (bit_xor state n)) bits (sym (word-number bytes word read))
    ∙ sym (after_bytes-is state bytes (word-bytes bytes word read))

-- steps over four bytes and more: those over the bytes are done, and a number that is to come stands where they end
word-behind : (k state : ℕ) (bytes : List ℕ) (word next : ℕ) → IsWord bytes word
    → bit_xor (after_bits k next) (after_bits (32 + k) (bit_xor state word)) ≡ after_bits k (bit_xor (after_bytes state bytes) next)
word-behind k state bytes word next read =
    ap (bit_xor (after_bits k next)) (after_bits-add 32 k (bit_xor state word) ∙ ap (after_bits k) (word-steps state bytes word read))
    ∙ sym (after_bits-xor k next (after_bytes state bytes))
    ∙ ap (after_bits k) (xor_comm next (after_bytes state bytes))

-- eight bytes as two numbers
pub words-steps : (state : ℕ) (front back : List ℕ) (first second : ℕ) → IsWord front first → IsWord back second
    → bit_xor (after_bits 32 second) (after_bits 64 (bit_xor state first)) ≡ after_bytes (after_bytes state front) back
words-steps state front back first second read read_too =
    word-behind 32 state front first second read ∙ word-steps (after_bytes state front) back second read_too

-- sixteen bytes as four numbers
pub four-words-steps : (state : ℕ) (one two three four : List ℕ) (a b c d : ℕ) → IsWord one a → IsWord two b → IsWord three c → IsWord four d
    → bit_xor (bit_xor (bit_xor (after_bits 32 d) (after_bits 64 c)) (after_bits 96 b)) (after_bits 128 (bit_xor state a))
    ≡ after_bytes (after_bytes (after_bytes (after_bytes state one) two) three) four
four-words-steps state one two three four a b c d read_a read_b read_c read_d =
    let later = bit_xor (after_bits 32 d) (after_bits 64 c) in
    xor_assoc later (after_bits 96 b) (after_bits 128 (bit_xor state a))
    ∙ ap (bit_xor later) (word-behind 96 state one a b read_a)
    ∙ xor_assoc (after_bits 32 d) (after_bits 64 c) (after_bits 96 (bit_xor (after_bytes state one) b))
    ∙ ap (bit_xor (after_bits 32 d)) (word-behind 64 (after_bytes state one) two b c read_b)
    ∙ words-steps (after_bytes (after_bytes state one) two) three four c d read_c read_d

-- over pieces of one length, and then over what is left behind them
pub fold-chunks : {A : Type 0} (f : ℕ → A → ℕ) (n k state : ℕ) (xs : List A) →
    fold f (fold (fold f) state (first_chunks n k xs)) (drop (k * n) xs) ≡ fold f state xs
fold-chunks f n zero state xs =
    let none : 0 * n ≡ 0 = omega arith in
    ap (λ k. fold f state (drop k xs)) none
fold-chunks f n (suc k) state xs =
    let more : suc k * n ≡ n + k * n = omega arith in
    ap (λ rest. fold f (fold (fold f) state (first_chunks n (suc k) xs)) rest) (ap (λ m. drop m xs) more ∙ sym (drop-drop (k * n) n xs))
    ∙ fold-chunks f n k (fold f state (take n xs)) (drop n xs)
    ∙ sym (fold-append f state (take n xs) (drop n xs))
    ∙ ap (fold f state) (take-append-drop n xs)
