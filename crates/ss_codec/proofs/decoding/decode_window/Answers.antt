use Rattle.std.proofs.Common.{◌∙◌, refl, sym}
use Rattle.ss_codec.proofs.WindowBytes.{decoded-window}
use Rattle.ss_codec.proofs.decoding.decode_window.Goals as goal

pub returns-then-is_blank_beside : goal.returns-then-is_blank_beside
returns-then-is_blank_beside c =
    let is = decoded-window c.args.bytes.now c.told-bytes c.fits-bytes c.requires in
    let blank = sym c.is_blank_beside.ensures ∙ c.if-is_blank_beside.true in
    rw (is, blank) c.window_in.ensures

pub returns-else-is_blank_beside : goal.returns-else-is_blank_beside
returns-else-is_blank_beside c =
    let is = decoded-window c.args.bytes.now c.told-bytes c.fits-bytes c.requires in
    let blank = sym c.is_blank_beside.ensures ∙ c.if-is_blank_beside.false in
    rw (is, blank) refl
