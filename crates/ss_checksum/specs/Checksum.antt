-- CRC-32C (Castagnoli), as RFC 3720 gives it: the bits of each byte from the lowest on.
use Rattle.std.specs.Prelude.{ℕ, zero, suc, ◌-◌, ◌*◌, ◌/◌, ◌%◌, ◌^◌, List, fold, bit_xor}

-- the generator below x^32, its highest coefficient at the lowest bit
abbrev pub generator : ℕ
generator = 2197175160

-- one step: the number moves down by a bit, and takes the generator along where its lowest bit was set
abbrev pub after_bit : ℕ → ℕ
after_bit s = bit_xor (s / 2) (s % 2 * generator)

-- so many steps
abbrev pub after_bits : ℕ → ℕ → ℕ
after_bits zero s = s
after_bits (suc k) s = after_bits k (after_bit s)

-- one more byte: eight steps
abbrev pub after_byte : ℕ → ℕ → ℕ
after_byte s byte = after_bits 8 (bit_xor s byte)

-- more bytes
abbrev pub after_bytes : ℕ → List ℕ → ℕ
after_bytes s bytes = fold after_byte s bytes

-- the checksum of bytes: it begins with 32 ones, and all bits are turned at the end
unfoldable pub checksum : List ℕ → ℕ
checksum bytes = bit_xor (after_bytes (2 ^ 32 - 1) bytes) (2 ^ 32 - 1)
