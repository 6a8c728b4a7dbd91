use Rattle.ss_store.proofs.Common.{◌+◌, index_of, index_of-next}
use Rattle.ss_store.proofs.store.Store.after_in.Goals as goal

pub returns-clause-index : goal.returns-clause-index
returns-clause-index g c =
    let line = c.part.result.now.line in
    rw c.part.ensures (index_of-next line (index_of line.entries c.args.at + 1) c.neighbours.result.1 c.len-len.ensures.line c.neighbours.ensures.behind)
