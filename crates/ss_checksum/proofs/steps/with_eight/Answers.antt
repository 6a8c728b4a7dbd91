use Rattle.std.proofs.Common.{◌∙◌, ap₂}
use Rattle.std.specs.Prelude.{bit_xor}
use Rattle.ss_checksum.proofs.WordLemmas.{IsWord, words-steps}
use Rattle.ss_checksum.proofs.steps.with_eight.Goals as goal

pub returns : goal.returns
returns c =
    let first = c.from_le_bytes-2.result in
    let second = c.from_le_bytes.result in
    let read : IsWord c.args.front.now first =
    record { four = c.told-front; fits = c.fits-front; small = c.from_le_bytes-2.type_inv; is = c.from_le_bytes-2.ensures } in
    let read_too : IsWord c.args.back.now second =
    record { four = c.told-back; fits = c.fits-back; small = c.from_le_bytes.type_inv; is = c.from_le_bytes.ensures } in
    ap₂ bit_xor c.after_four_and.ensures c.after_four_and-2.ensures
    ∙ words-steps c.args.state c.args.front.now c.args.back.now first second read read_too
