use Rattle.ss_store.proofs.AskedStreams.{refuses_query_held-is}
use Rattle.ss_store.proofs.laws.query_refusals_of_what_is_held.Goals as goal

pub returns : goal.returns
returns c = refuses_query_held-is
