use Rattle.ss_journal.proofs.StepLemmas.{after-step}
use Rattle.bench_calls.proofs.records.stage.Goals as goal

pub returns-in-Some-clause-one_disk : goal.returns-in-Some-clause-one_disk
returns-in-Some-clause-one_disk g c =
    after-step c.in_ok-make_room.ensures.makes_room (λ told room. (c.stage.ensures.stages _).kept room.kept)
