use Rattle.std.proofs.Common.{◌-◌, ◌^◌, ◌∙◌, ap, sym}
use Rattle.std.proofs.lemmas.List.Sums.{fold-append}
use Rattle.std.specs.Prelude.{bit_xor}
use Rattle.ss_checksum.specs.Checksum.{after_byte, after_bytes, checksum}
use Rattle.ss_checksum.proofs.walking.checksum.Goals as goal

pub returns : goal.returns
unfolding checksum
returns c =
    ap (λ state. bit_xor state (2 ^ 32 - 1))
    (c.after_bytes-2.ensures ∙ ap (λ state. after_bytes state c.args.back.now) c.after_bytes.ensures
    ∙ sym (fold-append after_byte (2 ^ 32 - 1) c.args.front.now c.args.back.now))
