use Rattle.std.proofs.Common.{◌≡◌, ◌<◌, length, slice_index, sym, arith, rules}
use Rattle.ss_codec.proofs.RecordLemmas.{checked-long}
use Rattle.ss_codec.proofs.decoding.stream_in.Goals as goal

pub returns-then-length-gt-LONGEST_NAME : goal.returns-then-length-gt-LONGEST_NAME
returns-then-length-gt-LONGEST_NAME c =
    let long : length c.args.bytes.now ≡ 128 = search rules in
    let more : 32 < slice_index c.args.bytes.now 2 = omega arith in
    sym (checked-long c.args.bytes.now long more)
