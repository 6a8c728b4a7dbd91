use Rattle.std.proofs.Common.{◌∙◌, List, ℕ, ap, length, arith}
use Rattle.hex.proofs.HexLemmas.{length-encode_with}
use Rattle.hex.specs.Hex.{lower_digits}
use Rattle.ss_dump.proofs.DigitLemmas.{IsUtf8-digits}
use Rattle.ss_fields.proofs.FieldLemmas.{length-number_bytes}
use Rattle.ss_fields.specs.Fields.{number_bytes}
use Rattle.ss_dump.proofs.text.put_sum.Goals as goal

pub put_digits-requires : goal.put_digits-requires
put_digits-requires c =
    let bytes = number_bytes 4 c.args.sum in
    let long = ap (λ (digits : List ℕ). length digits) c.sum_digits-digits.ensures ∙ length-encode_with lower_digits bytes in
    record {
      room = omega (arith, long, length-number_bytes 4 c.args.sum, c.push_str.ensures.len, c.requires);
      text = rw c.sum_digits-digits.ensures (IsUtf8-digits bytes);
    }
