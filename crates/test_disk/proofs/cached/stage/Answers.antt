use Rattle.ss_journal.proofs.StepLemmas.{after-step}
use Rattle.test_disk.proofs.cached.stage.Goals as goal

pub returns-then-fill-free-clause-one_disk : goal.returns-then-fill-free-clause-one_disk
returns-then-fill-free-clause-one_disk g c =
    after-step c.in_ok-make_room.ensures.makes_room (λ told room. (c.stage.ensures.stages _).kept room.kept)
