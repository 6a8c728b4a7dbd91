use Rattle.ss_program.proofs.Common.{refl, Follow, pieces, begun}
use Rattle.ss_promises.proofs.BrokenLemmas.{pieces-said, pieces-some}
use Rattle.ss_promises.proofs.frame_laws.any_bytes_are_followed.Goals as goal

pub returns-clause-said : goal.returns-clause-said
returns-clause-said c history input = (pieces-said (begun Follow history) history (pieces input) refl refl).0

pub returns-clause-history : goal.returns-clause-history
returns-clause-history c history input = (pieces-said (begun Follow history) history (pieces input) refl refl).1

pub returns-clause-added : goal.returns-clause-added
returns-clause-added c history input whole = pieces-some (begun Follow history) (pieces input) refl whole
