use Rattle.ss_fields.proofs.FieldLemmas.{i128_at-written}
use Rattle.ss_fields.proofs.laws.written_i128_reads_back.Goals as goal

pub returns : goal.returns
returns c = i128_at-written
