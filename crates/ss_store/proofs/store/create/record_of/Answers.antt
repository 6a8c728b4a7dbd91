use Rattle.ss_store.proofs.Common.{arith, false, is_valid-IsStream}
use Rattle.ss_store.proofs.store.create.record_of.Goals as goal

pub returns-clause-valid : goal.returns-clause-valid
returns-clause-valid c =
    is_valid-IsStream c.args.id c.args.name.now c.args.params false (omega arith) (rw (← c.as_bytes-word.ensures.value) c.as_bytes-word.ensures.name) c.requires
    (omega (arith, c.step_number-step.ensures))
