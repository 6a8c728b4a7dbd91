use Rattle.std.proofs.Common.{◌≡◌, ◌∙◌, ap, List, ℕ, Some, Ok}
use Rattle.hex.specs.Hex.{decode_sized}
use Rattle.hex.proofs.HexLemmas.{decode_sized-encode_lower}
use Rattle.ss_dump.proofs.reading.read_record.Goals as goal

pub returns-in-Ok : goal.returns-in-Ok
returns-in-Ok c bytes size are is =
    let read : decode_sized c.args.digits.now 128 ≡ Ok bytes = ap (λ t. decode_sized t 128) is ∙ decode_sized-encode_lower bytes 128 size are in
    let value = rw read at c.in-Ok.ensures.value in
    ap (λ (l : List ℕ). Some l) value.1

pub returns-in-Err : goal.returns-in-Err
returns-in-Err c bytes size are is =
    let read : decode_sized c.args.digits.now 128 ≡ Ok bytes = ap (λ t. decode_sized t 128) is ∙ decode_sized-encode_lower bytes 128 size are in
    let value = rw read at c.in-Err.ensures.value in
    let wrong = value.0 in
    cc
