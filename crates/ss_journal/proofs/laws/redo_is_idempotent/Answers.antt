use Rattle.ss_journal.proofs.RedoLemmas.{redo_entries-idempotent}
use Rattle.ss_journal.proofs.laws.redo_is_idempotent.Goals as goal

pub returns : goal.returns
returns c = redo_entries-idempotent
