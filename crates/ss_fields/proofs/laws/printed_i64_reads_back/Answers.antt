use Rattle.ss_fields.proofs.WordLemmas.{signed_of-signed_decimal}
use Rattle.ss_fields.proofs.laws.printed_i64_reads_back.Goals as goal

pub returns : goal.returns
returns c = signed_of-signed_decimal
