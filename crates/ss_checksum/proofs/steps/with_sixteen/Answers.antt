use Rattle.std.proofs.Common.{◌∙◌, ap₂}
use Rattle.std.specs.Prelude.{bit_xor}
use Rattle.ss_checksum.proofs.WordLemmas.{IsWord, four-words-steps}
use Rattle.ss_checksum.proofs.steps.with_sixteen.Goals as goal

pub returns : goal.returns
returns c =
    let first = c.from_le_bytes-4 in
    let second = c.from_le_bytes-3 in
    let third = c.from_le_bytes-2 in
    let last = c.from_le_bytes in
    let read_first : IsWord c.args.one.now first.result =
    record { four = c.told-one; fits = c.fits-one; small = first.type_inv; is = first.ensures } in
    let read_second : IsWord c.args.two.now second.result =
    record { four = c.told-two; fits = c.fits-two; small = second.type_inv; is = second.ensures } in
    let read_third : IsWord c.args.three.now third.result =
    record { four = c.told-three; fits = c.fits-three; small = third.type_inv; is = third.ensures } in
    let read_last : IsWord c.args.four.now last.result =
    record { four = c.told-four; fits = c.fits-four; small = last.type_inv; is = last.ensures } in
    ap₂ bit_xor (ap₂ bit_xor (ap₂ bit_xor c.after_four_and.ensures c.after_four_and-2.ensures) c.after_four_and-3.ensures) c.after_four_and-4.ensures
    ∙ four-words-steps c.args.state c.args.one.now c.args.two.now c.args.three.now c.args.four.now
    first.result second.result third.result last.result read_first read_second read_third read_last
