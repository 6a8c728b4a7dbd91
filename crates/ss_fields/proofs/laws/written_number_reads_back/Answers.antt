use Rattle.ss_fields.proofs.FieldLemmas.{number_at-written}
use Rattle.ss_fields.proofs.laws.written_number_reads_back.Goals as goal

pub returns : goal.returns
returns c = number_at-written
