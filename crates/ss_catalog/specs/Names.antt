-- Which words are names of streams.
use Rattle.std.specs.Prelude.{◌≡◌, ℕ, ◌-◌, Bool, true, ◌&&◌, ◌||◌, ◌==◌, nat_le, List, length, take, ◌++◌, replicate}
use Rattle.std.specs.Char.{is_ascii_alphanumeric}
use Rattle.std.specs.List.{list_all}
use lib.Pointwise.{pointwise}
use Rattle.ss_catalog.specs.declared.name.TheConstants.{LONGEST_NAME}

-- a byte that a name may have: a letter, a digit, `_`, `-` or `.`
abbrev pub is_name_byte : ℕ → Bool
is_name_byte b = is_ascii_alphanumeric b || b == 95 || b == 45 || b == 46

-- a word of 1 to 32 such bytes
unfoldable pub is_name : List ℕ → Bool
is_name word = nat_le 1 (length word) && nat_le (length word) LONGEST_NAME && list_all is_name_byte word

-- the bytes of a name in the place of the longest one, with zeros after them
abbrev pub padded : List ℕ → List ℕ
padded word = word ++ replicate (LONGEST_NAME - length word) 0

-- a name as it is held: so many bytes, and zeros after them
pub record IsPaddedName (bytes : List ℕ) (len : ℕ) : Type 0 where
  pub length : length (take len bytes) ≡ len
  pub name : is_name (take len bytes) ≡ true
  pub whole : padded (take len bytes) ≡ bytes

-- two names are the same, byte for byte
abbrev pub same_name : List ℕ → List ℕ → Bool
same_name = pointwise ◌==◌
