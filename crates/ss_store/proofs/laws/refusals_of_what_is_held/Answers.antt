use Rattle.ss_store.proofs.Refusals.{refuses_held-is}
use Rattle.ss_store.proofs.laws.refusals_of_what_is_held.Goals as goal

pub returns : goal.returns
returns c = refuses_held-is
