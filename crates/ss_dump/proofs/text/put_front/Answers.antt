use Rattle.std.proofs.Common.{◌∙◌, List, ℕ, ap, length, arith}
use Rattle.hex.proofs.HexLemmas.{length-encode_with}
use Rattle.hex.specs.Hex.{lower_digits}
use Rattle.ss_dump.proofs.DigitLemmas.{IsUtf8-digits}
use Rattle.ss_dump.proofs.text.put_front.Goals as goal

pub put_digits-requires : goal.put_digits-requires
put_digits-requires c =
    let long = ap (λ (digits : List ℕ). length digits) c.record_digits-digits.ensures ∙ length-encode_with lower_digits c.args.row.now.bytes in
    let none = ap (λ (text : List ℕ). length text) c.requires in
    record {
      room = omega (arith, long, c.push_str.ensures.len, c.put_number.ensures.short, none);
      text = rw c.record_digits-digits.ensures (IsUtf8-digits c.args.row.now.bytes);
    }
