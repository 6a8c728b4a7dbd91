use Rattle.ss_store.proofs.Named.{SomeAgree-named, SomeAgree-numbered}
use Rattle.ss_store.proofs.laws.what_is_held_is_found_alike.Goals as goal

pub returns-clause-named : goal.returns-clause-named
returns-clause-named c = SomeAgree-named

pub returns-clause-numbered : goal.returns-clause-numbered
returns-clause-numbered c = SomeAgree-numbered
