use Rattle.std.proofs.Common.{◌≡◌, ◌∙◌, ap, ap₂, arith, sym, length, length-drop, length-take, List, ℕ, ◌-◌, Some, [], take, drop, ◌+◌}
use Rattle.std.specs.Fmt.{decimal}
use Rattle.hex.specs.Hex.{encode_lower}
use Rattle.ss_dump.specs.Dump.{IsRow, row_line}
use Rattle.ss_dump.specs.declared.row.Row.{Row}
use Rattle.ss_dump.proofs.ReadLemmas.{length-row_line, record-in_line, slot-in_line, some-same, whole-rest}
use Rattle.ss_dump.proofs.reading.row_read.Goals as goal

slot-of : (line : List ℕ) (row : Row) → IsRow row → line ≡ row_line row → take (length line - 267) line ≡ decimal row.slot
slot-of line row is same = rw same (slot-in_line row (length (row_line row) - 267) (omega (arith, length-row_line row is)))

record-of : (line : List ℕ) (row : Row) → IsRow row → line ≡ row_line row →
    take 256 (take (length line - (length line - 267 + 1)) (drop (length line - 267 + 1) line)) ≡ encode_lower row.bytes
record-of line row is same =
    rw (whole-rest (length line - 267 + 1) line) (rw same (record-in_line row (length (row_line row) - 267) is (omega (arith, length-row_line row is))))

pub returns-then-line-lt-BEHIND_SLOT : goal.returns-then-line-lt-BEHIND_SLOT
returns-then-line-lt-BEHIND_SLOT c row is line =
    absurd (omega (arith, ap (λ (l : List ℕ). length l) line, length-row_line row is, c.if-line-lt-BEHIND_SLOT.true))

pub returns-in_err-slot : goal.returns-in_err-slot
returns-in_err-slot c row is line =
    let slot = c.read_number.ensures row.slot is.slot (slot-of c.args.line.now row is line) in
    let wrong = sym c.in_err-slot.was ∙ slot in
    cc

pub returns-in_err-bytes : goal.returns-in_err-bytes
returns-in_err-bytes c row is line =
    let bytes = c.read_record.ensures row.bytes is.size is.bytes (record-of c.args.line.now row is line) in
    let wrong = sym c.in_err-bytes.was ∙ bytes in
    cc

pub returns : goal.returns
returns c row is line =
    let slot = c.read_number.ensures row.slot is.slot (slot-of c.args.line.now row is line) in
    let bytes = c.read_record.ensures row.bytes is.size is.bytes (record-of c.args.line.now row is line) in
    let slot_is : c.in_ok-slot.slot ≡ row.slot = some-same 0 c.in_ok-slot.slot row.slot (sym c.in_ok-slot.was ∙ slot) in
    let bytes_are : c.in_ok-bytes.bytes ≡ row.bytes = some-same [] c.in_ok-bytes.bytes row.bytes (sym c.in_ok-bytes.was ∙ bytes) in
    let Row_of : ℕ → List ℕ → Row = λ slot bytes. record { slot = slot; bytes = bytes } in
    ap₂ (λ slot bytes. Some (Row_of slot bytes)) slot_is bytes_are

pub slice_bounds-read_record-end : goal.slice_bounds-read_record-end
slice_bounds-read_record-end c =
    let line = c.args.line.now in
    let from = length line - 267 + 1 in
    let rest = take (length line - from) (drop from line) in
    let same = ap (λ (l : List ℕ). length l) (whole-rest from line) in
    omega (arith, same, length-drop from line, length-take 256 rest, c.if-line-lt-BEHIND_SLOT.false)
