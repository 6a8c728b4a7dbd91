use Rattle.std.proofs.Common.{◌≡◌, ◌∙◌, ap, arith, Ok}
use Rattle.ss_fields.specs.Words.{unsigned_of}
use Rattle.ss_fields.proofs.WordLemmas.{unsigned_of-decimal}
use Rattle.ss_dump.proofs.ReadLemmas.{read-same}
use Rattle.ss_dump.proofs.reading.read_number.Goals as goal

pub returns-in-Ok : goal.returns-in-Ok
returns-in-Ok c n few is =
    let read : unsigned_of c.args.word.now ≡ Ok n = ap (λ w. unsigned_of w) is ∙ unsigned_of-decimal n (omega (arith, few)) in
    let same = read-same n c.in-Ok.number (unsigned_of c.args.word.now) read c.in-Ok.ensures in
    rw same at (c.as_small.ensures (rw same few))

pub returns-in-Err : goal.returns-in-Err
returns-in-Err c n few is =
    let read : unsigned_of c.args.word.now ≡ Ok n = ap (λ w. unsigned_of w) is ∙ unsigned_of-decimal n (omega (arith, few)) in
    let wrong = c.in-Err.ensures ∙ read in
    cc
