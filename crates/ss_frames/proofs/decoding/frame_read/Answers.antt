use Rattle.std.proofs.Common.{◌≡◌, ◌<◌, ◌+◌, ◌-◌, ◌∙◌, false, arith, drop, slice_index, subst, sym, take}
use Rattle.ss_catalog.specs.Names.{is_name}
use Rattle.ss_frames.proofs.FrameLemmas.{checked-long, checked-unnamed, unnamed-none}
use Rattle.ss_frames.proofs.decoding.frame_read.Goals as goal

pub returns-then-length-gt-LONGEST_NAME : goal.returns-then-length-gt-LONGEST_NAME
returns-then-length-gt-LONGEST_NAME c =
    let more : 32 < slice_index c.args.bytes.now 2 = omega arith in
    sym (checked-long c.args.bytes.now c.told-bytes more)

pub returns-in_err-name : goal.returns-in_err-name
returns-in_err-name c =
    let bytes = c.args.bytes.now in
    let size : 16 + c.from-length.result - 16 ≡ slice_index bytes 2 = omega (arith, c.from-length.ensures) in
    let none = unnamed-none (take (16 + c.from-length.result - 16) (drop 16 bytes)) c.of.result c.of.ensures c.in_err-name.was in
    let unnamed = subst (λ n. is_name (take n (drop 16 bytes)) ≡ false) size none in
    c.from_residual.ensures ∙ sym (checked-unnamed bytes unnamed)
