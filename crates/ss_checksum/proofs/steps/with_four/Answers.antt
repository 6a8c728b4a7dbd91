use Rattle.std.proofs.Common.{◌∙◌}
use Rattle.ss_checksum.proofs.WordLemmas.{IsWord, word-steps}
use Rattle.ss_checksum.proofs.steps.with_four.Goals as goal

pub returns : goal.returns
returns c =
    let word = c.from_le_bytes.result in
    let read : IsWord c.args.bytes.now word =
    record { four = c.told-bytes; fits = c.fits-bytes; small = c.from_le_bytes.type_inv; is = c.from_le_bytes.ensures } in
    c.after_four_and.ensures ∙ word-steps c.args.state c.args.bytes.now word read
