-- Bytes that end with their checksum.
use Rattle.std.specs.Prelude.{◌≡◌, ℕ, List, ◌++◌}
use Rattle.std.specs.Int.{w32, to_le_bytes}
use Rattle.ss_checksum.specs.Checksum.{checksum}

-- a checksum as four bytes, the lowest first
abbrev pub check_bytes : ℕ → List ℕ
check_bytes sum = to_le_bytes w32 sum

-- bytes that end with a checksum, which is that of a front and of the bytes before it
pub record IsChecked (front bytes : List ℕ) : Type 0 where
  pub covered : List ℕ
  pub are : bytes ≡ covered ++ check_bytes (checksum (front ++ covered))
