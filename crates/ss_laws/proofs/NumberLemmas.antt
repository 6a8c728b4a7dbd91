-- Bytes as one number: its parts, and which of them a run of bits or two bits can reach.
use Rattle.std.proofs.Common.{◌≡◌, ◌∙◌, refl, sym, ap, ap₂, ℕ, zero, suc, ◌+◌, ◌-◌, ◌*◌, ◌^◌, ◌<◌, ◌≤◌, List, [], ◌∷◌, length, take, drop, arith, lit≤, inl}
use Rattle.std.proofs.Common.{inr}
use Rattle.std.specs.Prelude.{bit_xor, replicate}
use Rattle.std.proofs.Math.Nat.{mul_assoc, one-le-pow, pow-le-pow_right, pow-suc}
use Rattle.std.proofs.lemmas.Bool.{cases_eq, cases_lt}
use Rattle.std.proofs.lemmas.List.{drop-drop, length-take}
use Rattle.std.proofs.lemmas.List.Elements.{All-drop, All-take}
use Rattle.std.proofs.lemmas.Nat.{mul-le, pow-add, same_from_place, xor_comm}
use Rattle.std.proofs.Math.Pow.{pow-lt}
use Rattle.ss_checksum.specs.Changes.{number_of_bytes}
use Rattle.ss_checksum.proofs.ChangeLemmas.{AreBytes, bits_of, bits_of-is, number_of_bytes-lt}
use Rattle.ss_checksum.proofs.StepLemmas.{xor_parts}

-- where some of them isn't 0 behind a place, or before it, some isn't
pub drop-some : (n : ℕ) (xs : List ℕ) → 0 < number_of_bytes (drop n xs) → 0 < number_of_bytes xs
drop-some zero xs some = some
drop-some (suc n) [] some = some
drop-some (suc n) (x ∷ xs) some = omega (arith, drop-some n xs some)

pub take-some : (n : ℕ) (xs : List ℕ) → 0 < number_of_bytes (take n xs) → 0 < number_of_bytes xs
take-some zero xs some = absurd (omega (arith, some))
take-some (suc n) [] some = some
take-some (suc n) (x ∷ xs) some = elim (cases_eq x 0) [
  | inl none ↦ omega (arith, take-some n xs (omega (arith, some, none)))
  | inr other ↦ omega (arith, other)
]

-- bytes whose number is 0 are zeros, and so are those that are tested for it
pub zeros-none : (xs : List ℕ) → number_of_bytes xs ≡ 0 → xs ≡ replicate (length xs) 0
zeros-none [] none = refl
zeros-none (x ∷ xs) none = ap₂ ◌∷◌ (omega (arith, none)) (zeros-none xs (omega (arith, none)))

-- the number before a place, and the one from there on
pub number_of_bytes-split : (n : ℕ) (xs : List ℕ) → number_of_bytes xs ≡ number_of_bytes (take n xs) + 2 ^ (8 * n) * number_of_bytes (drop n xs)
number_of_bytes-split zero xs = omega arith
number_of_bytes-split (suc n) [] = omega arith
number_of_bytes-split (suc n) (x ∷ xs) =
    let p = 2 ^ (8 * n) in
    let d = number_of_bytes (drop n xs) in
    let step : 8 * suc n ≡ 8 + 8 * n = omega arith in
    let power : 2 ^ (8 * suc n) ≡ 2 ^ 8 * p = ap (λ k. 2 ^ k) step ∙ pow-add 2 8 (8 * n) in
    let moved : 2 ^ (8 * suc n) * d ≡ 2 ^ 8 * (p * d) = ap (λ k. k * d) power ∙ mul_assoc (2 ^ 8) p d in
    omega (arith, number_of_bytes-split n xs, moved)

pub number_of_bytes-before : (n : ℕ) (xs : List ℕ) → AreBytes xs → number_of_bytes (take n xs) < 2 ^ (8 * n)
number_of_bytes-before n xs bytes =
    let few : bits_of (take n xs) ≤ 8 * n = omega (arith, bits_of-is (take n xs), length-take n xs) in
    let room : 2 ^ bits_of (take n xs) ≤ 2 ^ (8 * n) = pow-le-pow_right {n = 2} (lit≤ tt) few in
    omega (arith, room, number_of_bytes-lt (take n xs) (All-take (λ x. x < 2 ^ 8) n xs bytes))

-- a power that isn't below another is a multiple of it
multiple : (n k : ℕ) → n ≤ k → 2 ^ k ≡ 2 ^ (k - n) * 2 ^ n
multiple n k le =
    let parts : k ≡ (k - n) + n = omega (arith, le) in
    ap (λ m. 2 ^ m) parts ∙ pow-add 2 (k - n) n

at_least : (p y : ℕ) → 0 < y → p ≤ p * y
at_least p y some = omega (arith, mul-le p 1 p y (omega arith) some)

-- one bit isn't in two parts
one_part : (n x y k : ℕ) → x < 2 ^ n → 0 < x → 0 < y → x + 2 ^ n * y ≡ 2 ^ k → ⊥
one_part n x y k few some more is = elim (cases_lt k n) [
  | inl lt ↦
      let below : 2 ^ k ≤ 2 ^ n = pow-le-pow_right {n = 2} (lit≤ tt) (omega (arith, lt)) in
      omega (arith, some, is, below, at_least (2 ^ n) y more)
  | inr ge ↦
      let there : y * 2 ^ n + x ≡ 2 ^ (k - n) * 2 ^ n + 0 = omega (arith, is, multiple n k ge) in
      omega (arith, some, (same_from_place y x (2 ^ (k - n)) 0 (2 ^ n) few (one-le-pow n 2 (lit≤ tt)) there).1)
]

two_bits : (i j : ℕ) → i < j → bit_xor (2 ^ i) (2 ^ j) ≡ 2 ^ j + 2 ^ i
two_bits i j order =
    let apart : bit_xor (1 * 2 ^ j) (2 ^ i) ≡ 1 * 2 ^ j + 2 ^ i = xor_parts 1 j (2 ^ i) (pow-lt {i = i} {j = j} order) in
    let one : 1 * 2 ^ j ≡ 2 ^ j = omega arith in
    xor_comm (2 ^ i) (2 ^ j) ∙ rw one at apart

-- two bits that are in two parts are one in the higher of them
two_parts : (n x y i j : ℕ) → x < 2 ^ n → 0 < x → 0 < y → i < j → x + 2 ^ n * y ≡ 2 ^ j + 2 ^ i → y ≡ 2 ^ (j - n)
two_parts n x y i j few some more order is = elim (cases_lt j n) [
  | inl lt ↦
      let double : 2 ^ suc j ≡ 2 ^ j * 2 = pow-suc 2 j in
      let below : 2 ^ suc j ≤ 2 ^ n = pow-le-pow_right {n = 2} (lit≤ tt) lt in
      absurd (omega (arith, is, below, double, some, pow-lt {i = i} {j = j} order, at_least (2 ^ n) y more))
  | inr ge ↦ elim (cases_lt i n) [
    | inl lt ↦
        let there : y * 2 ^ n + x ≡ 2 ^ (j - n) * 2 ^ n + 2 ^ i = omega (arith, is, multiple n j ge) in
        (same_from_place y x (2 ^ (j - n)) (2 ^ i) (2 ^ n) few (pow-lt {i = i} {j = n} lt) there).0
    | inr le ↦
        let there : y * 2 ^ n + x ≡ (2 ^ (j - n) + 2 ^ (i - n)) * 2 ^ n + 0 = omega (arith, is, multiple n j ge, multiple n i le) in
        absurd (omega (arith, some, (same_from_place y x (2 ^ (j - n) + 2 ^ (i - n)) 0 (2 ^ n) few (one-le-pow n 2 (lit≤ tt)) there).1))
  ]
]

-- bytes of which some aren't 0 at three places differ from zeros in more than two bits
pub no_two_bits : (xs : List ℕ) (i j place size : ℕ) → AreBytes xs → 0 < number_of_bytes (take place xs) → 0 < number_of_bytes (take size (drop place xs))
    → 0 < number_of_bytes (drop (place + size) xs) → i < j → number_of_bytes xs ≡ bit_xor (2 ^ i) (2 ^ j) → ⊥
no_two_bits xs i j place size bytes first middle last order is =
    let rest = drop place xs in
    let behind : drop size rest ≡ drop (place + size) xs = drop-drop size place xs in
    let last_too : 0 < number_of_bytes (drop size rest) = omega (arith, last, ap number_of_bytes behind) in
    let some : 0 < number_of_bytes rest = take-some size rest middle in
    let sum : number_of_bytes (take place xs) + 2 ^ (8 * place) * number_of_bytes rest ≡ 2 ^ j + 2 ^ i = sym (number_of_bytes-split place xs) ∙ is ∙
    two_bits i j order in
    let one = two_parts (8 * place) (number_of_bytes (take place xs)) (number_of_bytes rest) i j (number_of_bytes-before place xs bytes) first some order sum in
    one_part (8 * size) (number_of_bytes (take size rest)) (number_of_bytes (drop size rest)) (j - 8 * place)
    (number_of_bytes-before size rest (All-drop (λ x. x < 2 ^ 8) place xs bytes)) middle last_too (sym (number_of_bytes-split size rest) ∙ one)

-- bytes of which the first isn't 0 and neither are all from the ninth on differ from zeros in a longer run than 32 bits
pub no_burst : (xs : List ℕ) (run at : ℕ) → AreBytes xs → 0 < number_of_bytes (take 1 xs) → 0 < number_of_bytes (drop 8 xs) → run < 2 ^ 32
    → number_of_bytes xs ≡ run * 2 ^ at → ⊥
no_burst xs run at bytes first far few is =
    let low : number_of_bytes (take 1 xs) < 2 ^ 8 = number_of_bytes-before 1 xs bytes in
    let low_split : number_of_bytes xs ≡ number_of_bytes (take 1 xs) + 2 ^ 8 * number_of_bytes (drop 1 xs) = number_of_bytes-split 1 xs in
    let split : number_of_bytes xs ≡ number_of_bytes (take 8 xs) + 2 ^ 64 * number_of_bytes (drop 8 xs) = number_of_bytes-split 8 xs in
    elim (cases_lt at 8) [
      | inl lt ↦
          let near : at ≤ 8 = omega (arith, lt) in
          let power : 2 ^ at ≤ 2 ^ 8 = pow-le-pow_right {n = 2} (lit≤ tt) near in
          let most : run * 2 ^ at ≤ 2 ^ 32 * 2 ^ 8 = mul-le run (2 ^ at) (2 ^ 32) (2 ^ 8) (omega (arith, few)) power in
          omega (arith, is, most, far, split)
      | inr ge ↦
          let up : run * 2 ^ at ≡ run * 2 ^ (at - 8) * 2 ^ 8 = ap (λ p. run * p) (multiple 8 at ge) ∙ sym (mul_assoc run (2 ^ (at - 8)) (2 ^ 8)) in
          omega (arith, is, up, low, low_split, first)
    ]
