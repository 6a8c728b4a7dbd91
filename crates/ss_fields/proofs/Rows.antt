-- Rows that pin constants, each computed.
use Rattle.std.proofs.Common.{◌≡◌, refl}
use Rattle.ss_fields.specs.declared.print.TheConstants.{LONGEST_PRINTED_NUMBER}

-- the least `i128` has 39 digits and a sign
longest_printed_number : LONGEST_PRINTED_NUMBER ≡ 40
longest_printed_number = refl
