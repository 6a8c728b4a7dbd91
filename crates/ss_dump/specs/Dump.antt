-- The text of a dump.
use Rattle.std.specs.Prelude.{◌≡◌, ℕ, ◌^◌, ◌<◌, List, [], ◌∷◌, ◌++◌, codes, flat_map, length}
use Rattle.std.specs.Fmt.{decimal}
use Rattle.hex.specs.Hex.{IsBytes, encode_lower}
use Rattle.ss_base.specs.declared.limits.TheConstants.{SLOT_SIZE}
use Rattle.ss_checksum.specs.Checksum.{checksum}
use Rattle.ss_fields.specs.Fields.{number_bytes}
use Rattle.ss_dump.specs.declared.row.Row.{Row}

-- a slot of 32 bits, and as many bytes as a slot has
pub record IsRow (row : Row) : Type 0 where
  pub slot : row.slot < 2 ^ 32
  pub size : length row.bytes ≡ SLOT_SIZE
  pub bytes : IsBytes row.bytes

-- the front of a row: its slot in decimal, and the bytes of the record, two hexadecimal digits each, in lower case
abbrev pub row_front : Row → List ℕ
row_front row = decimal row.slot ++ 32 ∷ encode_lower row.bytes

-- a checksum as a word: its eight hexadecimal digits, the highest first, in lower case
abbrev pub sum_word : ℕ → List ℕ
sum_word sum = encode_lower (number_bytes 4 sum)

-- the line of a row, with its line end: its front and the checksum of that
abbrev pub row_line : Row → List ℕ
row_line row = row_front row ++ 32 ∷ sum_word (checksum (row_front row)) ++ 10 ∷ []

-- the lines of rows
abbrev pub rows_text : List Row → List ℕ
rows_text rows = flat_map row_line rows

-- the head: how many rows follow
abbrev pub head_line : ℕ → List ℕ
head_line count = codes "dump " ++ decimal count ++ 10 ∷ []

-- the end row: how many rows there were, and a checksum
abbrev pub end_line : ℕ → ℕ → List ℕ
end_line count sum = codes "end " ++ decimal count ++ 32 ∷ sum_word sum ++ 10 ∷ []

-- the dump of rows: the checksum in its end row is that of all their lines
abbrev pub dump_text : List Row → List ℕ
dump_text rows = head_line (length rows) ++ rows_text rows ++ end_line (length rows) (checksum (rows_text rows))
