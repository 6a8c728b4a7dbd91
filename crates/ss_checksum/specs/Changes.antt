-- Bytes as one number, in which the bits stand in the order of the checksum, and how two of them differ.
use Rattle.std.specs.Prelude.{◌≡◌, ℕ, ◌+◌, ◌*◌, ◌^◌, ◌<◌, List, [], ◌∷◌, length, All, bit_xor}

-- bytes as a number, the first byte lowest
abbrev pub number_of_bytes : List ℕ → ℕ
number_of_bytes [] = 0
number_of_bytes (byte ∷ bytes) = byte + 2 ^ 8 * number_of_bytes bytes

-- bytes of eight bits, as many as others
pub record AreAsLong (xs ys : List ℕ) : Type 0 where
  pub same : length ys ≡ length xs
  pub bytes : All (λ x. x < 2 ^ 8) xs
  pub others : All (λ y. y < 2 ^ 8) ys

-- the bits in which bytes differ from as many others, as a number
abbrev pub difference : List ℕ → List ℕ → ℕ
difference xs ys = bit_xor (number_of_bytes xs) (number_of_bytes ys)
