use Rattle.ss_fields.proofs.FieldLemmas.{i64_at-written}
use Rattle.ss_fields.proofs.laws.written_i64_reads_back.Goals as goal

pub returns : goal.returns
returns c = i64_at-written
