use Rattle.ss_journal.proofs.StepLemmas.{after-step}
use Rattle.bench_calls.proofs.journal.commit.Goals as goal

pub seal-requires-clause-one_disk : goal.seal-requires-clause-one_disk
seal-requires-clause-one_disk g c = after-step c.in_ok-make_room.ensures.makes_room (λ told room. (c.stage.ensures.stages _).kept room.kept)
