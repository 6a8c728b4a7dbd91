-- Fields at their places in the bytes of a slot.
use Rattle.std.specs.Prelude.{ℕ, ◌+◌, ℤ, List, [], ◌∷◌, ◌++◌, length, take, drop}
use Rattle.std.specs.Int.{cast_unsigned, w64, w128}
use Rattle.ss_fields.specs.Fields.{number_bytes}

-- a field: the place of its first byte, how many bytes it has, and these bytes
pub record Field : Type 0 where
  pub place : ℕ
  pub size : ℕ
  pub bytes : List ℕ

-- a field of one byte
abbrev pub u8 : ℕ → ℕ → Field
u8 place value = record { place = place; size = 1; bytes = value ∷ [] }

-- a field of 4 bytes, the highest first
abbrev pub u32 : ℕ → ℕ → Field
u32 place value = record { place = place; size = 4; bytes = number_bytes 4 value }

-- a field of 8 bytes, the highest first
abbrev pub u64 : ℕ → ℕ → Field
u64 place value = record { place = place; size = 8; bytes = number_bytes 8 value }

-- the same for a signed number, in two's complement
abbrev pub i64 : ℕ → ℤ → Field
i64 place value = u64 place (cast_unsigned w64 value)

-- a field of 16 bytes for a signed number, the highest first, in two's complement
abbrev pub i128 : ℕ → ℤ → Field
i128 place value = record { place = place; size = 16; bytes = number_bytes 16 (cast_unsigned w128 value) }

-- a field of text, as long as the text
abbrev pub text : ℕ → List ℕ → Field
text place bytes = record { place = place; size = length bytes; bytes = bytes }

-- some bytes with a field written over them
unfoldable pub with_field : List ℕ → Field → List ℕ
with_field bytes field = take field.place bytes ++ field.bytes ++ drop (field.place + field.size) bytes

-- the same with some fields
abbrev pub with_fields : List ℕ → List Field → List ℕ
with_fields bytes [] = bytes
with_fields bytes (field ∷ fields) = with_fields (with_field bytes field) fields
