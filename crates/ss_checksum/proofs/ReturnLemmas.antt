-- One bit doesn't come back to itself within 4,352 steps, so two bits of at most 544 bytes are told.
use Rattle.std.proofs.Common.{◌≡◌, ◌≢◌, ◌∙◌, refl, ap, ap₂, ℕ, zero, suc, ◌+◌, ◌-◌, ◌*◌, ◌^◌, ◌<◌, ◌≤◌, Bool, true, not, ◌&&◌, ◌==◌, List, length, arith, lit<}
use Rattle.std.proofs.Common.{lit≤, inl, inr}
use Rattle.std.specs.Prelude.{bit_xor}
use Rattle.std.proofs.Math.Nat.{pow-le-pow_right}
use Rattle.std.proofs.lemmas.Bool.Decides.{nat_tests}
use Rattle.std.proofs.lemmas.Bool.{and_parts, cases_lt, cases_eq}
use Rattle.std.proofs.lemmas.Nat.{pow-add, xor_comm, xor_lt}
use Rattle.std.proofs.Math.Pow.{pow-lt}
use Rattle.ss_checksum.specs.Changes.{AreAsLong, difference}
use Rattle.ss_checksum.specs.Checksum.{after_bit, after_bits}
use Rattle.ss_checksum.specs.Codeword.{IsChecked}
use Rattle.ss_checksum.proofs.StepLemmas.{after_bits-add, after_bits-lt, after_bits-shifted, after_bits-some, after_bits-xor, from_none, xor_parts}
use Rattle.ss_checksum.proofs.ChangeLemmas.{AreBytes, bits_of, bits_of-is, difference-lt}
use Rattle.ss_checksum.proofs.CodewordLemmas.{checked-apart}

-- none of a number and of what so many steps leave of it is 1
abbrev stays_off : ℕ → ℕ → Bool
stays_off zero s = true
stays_off (suc more) s = not (s == 1) && stays_off more (after_bit s)

stays_off-at : (more k s : ℕ) → stays_off more s ≡ true → k < more → after_bits k s ≢ 1
stays_off-at zero k s off inside same = omega arith
stays_off-at (suc more) zero s off inside same = absurd (grind (arith, nat_tests, off, same))
stays_off-at (suc more) (suc k) s off inside same =
    stays_off-at more k (after_bit s) (and_parts (not (s == 1)) (stays_off more (after_bit s)) off).1 (omega arith) same

one-stays_off : stays_off 4352 (after_bit 1) ≡ true
one-stays_off = refl

never_returns : (m : ℕ) → 0 < m → m ≤ 4352 → after_bits m 1 ≢ 1
never_returns zero some few same = omega arith
never_returns (suc k) some few same = stays_off-at 4352 k (after_bit 1) one-stays_off (omega arith) same

-- two bits, the lower of which stands at i and the other m above it
pair-some : (n i m : ℕ) → 0 < m → m ≤ 4352 → i + m ≤ n → 0 < after_bits n (bit_xor (2 ^ i) (2 ^ (i + m)))
pair-some n i m some few inside =
    let one : 2 ^ i ≡ 1 * 2 ^ i = omega arith in
    let other : 2 ^ (i + m) ≡ 2 ^ m * 2 ^ i = pow-add 2 i m ∙ omega arith in
    let lower : after_bits i (bit_xor (2 ^ i) (2 ^ (i + m))) ≡ bit_xor 1 (2 ^ m) =
    after_bits-xor i (2 ^ i) (2 ^ (i + m))
    ∙ ap₂ bit_xor (ap (after_bits i) one ∙ after_bits-shifted i 1) (ap (after_bits i) other ∙ after_bits-shifted i (2 ^ m)) in
    let unit : 2 ^ m ≡ 1 * 2 ^ m = omega arith in
    let upper : after_bits m (bit_xor 1 (2 ^ m)) ≡ bit_xor (after_bits m 1) 1 =
    after_bits-xor m 1 (2 ^ m) ∙ ap (bit_xor (after_bits m 1)) (ap (after_bits m) unit ∙ after_bits-shifted m 1) in
    let parts : n ≡ i + (m + (n - i - m)) = omega (arith, inside) in
    let rest = n - i - m in
    let d = bit_xor (2 ^ i) (2 ^ (i + m)) in
    let whole : after_bits n d ≡ after_bits rest (bit_xor (after_bits m 1) 1) =
    ap (λ k. after_bits k d) parts ∙ after_bits-add i (m + rest) d ∙ ap (after_bits (m + rest)) lower
    ∙ after_bits-add m rest (bit_xor 1 (2 ^ m)) ∙ ap (after_bits rest) upper in
    let small : bit_xor (after_bits m 1) 1 < 2 ^ 32 = xor_lt 32 (after_bits m 1) 1 (after_bits-lt 32 m 1 (lit≤ tt) (lit< tt)) (lit< tt) in
    elim (cases_eq (bit_xor (after_bits m 1) 1) 0) [
      | inl none ↦ absurd (never_returns m some few (from_none (after_bits m 1) 1 none))
      | inr left ↦ omega (arith, whole, after_bits-some rest (bit_xor (after_bits m 1) 1) (omega (arith, left)) small)
    ]

-- the higher of two bits of a number below a power stands below it
higher-below : (n i j : ℕ) → i < j → bit_xor (2 ^ i) (2 ^ j) < 2 ^ n → j < n
higher-below n i j order few =
    elim (cases_lt j n) [
      | inl lt ↦ lt
      | inr ge ↦
          let apart : bit_xor (1 * 2 ^ j) (2 ^ i) ≡ 1 * 2 ^ j + 2 ^ i = xor_parts 1 j (2 ^ i) (pow-lt {i = i} {j = j} order) in
          let one : 1 * 2 ^ j ≡ 2 ^ j = omega arith in
          let same : bit_xor (2 ^ i) (2 ^ j) ≡ 2 ^ j + 2 ^ i = xor_comm (2 ^ i) (2 ^ j) ∙ rw one at apart in
          absurd (omega (arith, few, same, pow-le-pow_right {n = 2} (lit≤ tt) ge))
    ]

pub two : (front xs ys : List ℕ) (i j : ℕ) → AreBytes front → AreAsLong xs ys → IsChecked front xs → length xs ≤ 544 → i < j
    → difference xs ys ≡ bit_xor (2 ^ i) (2 ^ j) → ¬ IsChecked front ys
two front xs ys i j front_bytes long checked short order is =
    let n = bits_of xs in
    let room : n ≤ 4352 = omega (arith, bits_of-is xs, short) in
    let inside : j < n = higher-below n i j order (rw is at (difference-lt xs ys long)) in
    let up : j ≡ i + (j - i) = omega (arith, order) in
    let same : difference xs ys ≡ bit_xor (2 ^ i) (2 ^ (i + (j - i))) = is ∙ ap (λ k. bit_xor (2 ^ i) (2 ^ k)) up in
    let some = pair-some n i (j - i) (omega (arith, order)) (omega (arith, room, inside)) (omega (arith, order, inside)) in
    checked-apart front xs ys front_bytes long checked (rw same some)
