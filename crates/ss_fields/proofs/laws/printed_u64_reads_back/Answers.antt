use Rattle.ss_fields.proofs.WordLemmas.{unsigned_of-decimal}
use Rattle.ss_fields.proofs.laws.printed_u64_reads_back.Goals as goal

pub returns : goal.returns
returns c = unsigned_of-decimal
