-- Where the parts of a line stand.
use Rattle.std.proofs.Common.{◌≡◌, ◌∙◌, ap, ℕ, ◌+◌, ◌-◌, List, [], ◌∷◌, ◌++◌, length, take, drop, append_assoc, length-append, length-drop, arith}
use Rattle.std.proofs.Math.Seq.{drop-append-add, take-append_seam}
use Rattle.std.proofs.lemmas.List.{take_all}
use Rattle.std.specs.Fmt.{decimal}
use Rattle.std.specs.Prelude.{Ok, Option, Result, Some, None, Err}
use Rattle.ss_fields.specs.declared.number_error.NumberError.{NumberError}
use Rattle.hex.specs.Hex.{encode_lower, lower_digits}
use Rattle.hex.proofs.HexLemmas.{length-encode_with}
use Rattle.ss_checksum.specs.Checksum.{checksum}
use Rattle.ss_fields.specs.Fields.{number_bytes}
use Rattle.ss_fields.proofs.FieldLemmas.{length-number_bytes}
use Rattle.ss_dump.specs.Dump.{IsRow, head_line, row_front, row_line, sum_word}
use Rattle.ss_dump.specs.declared.row.Row.{Row}

-- what stands behind the record
abbrev behind_record : Row → List ℕ
behind_record row = 32 ∷ sum_word (checksum (row_front row)) ++ 10 ∷ []

length-behind_record : (row : Row) → length (behind_record row) ≡ 10
length-behind_record row =
    let sum = checksum (row_front row) in
    omega (
      arith,
      length-append (sum_word sum) (10 ∷ []),
      length-encode_with lower_digits (number_bytes 4 sum),
      length-number_bytes 4 sum,
    )

-- a row with its slot first, then its record
row_line-parts : (row : Row) → row_line row ≡ decimal row.slot ++ (32 ∷ encode_lower row.bytes ++ behind_record row)
row_line-parts row =
    append_assoc (row_front row) (32 ∷ sum_word (checksum (row_front row))) (10 ∷ [])
    ∙ append_assoc (decimal row.slot) (32 ∷ encode_lower row.bytes) (behind_record row)

pub length-row_line : (row : Row) → IsRow row → length (row_line row) ≡ length (decimal row.slot) + 267
length-row_line row is =
    let digits = decimal row.slot in
    let enc = encode_lower row.bytes in
    let parts = ap (λ (l : List ℕ). length l) (row_line-parts row) in
    omega (
      arith,
      parts,
      length-append digits (32 ∷ enc ++ behind_record row),
      length-append enc (behind_record row),
      length-encode_with lower_digits row.bytes,
      length-behind_record row,
      is.size,
    )

-- its slot
pub slot-in_line : (row : Row) (end : ℕ) → end ≡ length (decimal row.slot) → take end (row_line row) ≡ decimal row.slot
slot-in_line row end is =
    rw (is, row_line-parts row) (take-append_seam (decimal row.slot) (32 ∷ encode_lower row.bytes ++ behind_record row))

-- and its record
pub record-in_line : (row : Row) (end : ℕ) → IsRow row → end ≡ length (decimal row.slot) → take 256 (drop (end + 1) (row_line row)) ≡ encode_lower row.bytes
record-in_line row end is at =
    let digits = decimal row.slot in
    let enc = encode_lower row.bytes in
    let long : 256 ≡ length enc = omega (arith, length-encode_with lower_digits row.bytes, is.size) in
    rw (at, row_line-parts row)
    (ap (take 256) (drop-append-add digits (32 ∷ enc ++ behind_record row) 1)
    ∙ ap (λ n. take n (enc ++ behind_record row)) long ∙ take-append_seam enc (behind_record row))

-- the number of a head
pub number-in_head : (count : ℕ) → take (length (drop 5 (head_line count)) - 1) (drop 5 (head_line count)) ≡ decimal count
number-in_head count =
    let few : length (decimal count ++ 10 ∷ []) - 1 ≡ length (decimal count) = omega (arith, length-append (decimal count) (10 ∷ [])) in
    ap (λ n. take n (decimal count ++ 10 ∷ [])) few ∙ take-append_seam (decimal count) (10 ∷ [])

pub length-head_line : (count : ℕ) → length (head_line count) ≡ length (decimal count) + 6
length-head_line count = omega (arith, length-append (decimal count) (10 ∷ []))

-- what is read, or nothing
abbrev read_or : ℕ → Result ℕ NumberError → ℕ
read_or d (Ok n) = n
read_or d (Err e) = d

-- one number alone is read
pub read-same : (n m : ℕ) (read : Result ℕ NumberError) → read ≡ Ok n → Ok m ≡ read → m ≡ n
read-same n m read is was = ap (read_or 0) (was ∙ is)

abbrev some_or : {A : Type 0} → A → Option A → A
some_or d None = d
some_or d (Some a) = a

pub some-same : {A : Type 0} (d a b : A) → Some a ≡ Some b → a ≡ b
some-same d a b same = ap (some_or d) same

-- a list from a place on, to its end
pub whole-rest : (from : ℕ) (l : List ℕ) → take (length l - from) (drop from l) ≡ drop from l
whole-rest from l = take_all (length l - from) (drop from l) (omega (arith, length-drop from l))
