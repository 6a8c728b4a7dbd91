use Rattle.ss_store.proofs.Common.{index_of-first}
use Rattle.ss_store.proofs.store.Store.window_first.Goals as goal

pub returns-clause-index : goal.returns-clause-index
returns-clause-index c = rw c.part.ensures (index_of-first c.part.result.now.line.entries c.first.result c.first.ensures.value)
