use Rattle.ss_journal.proofs.MarkLemmas.{marked-joined}
use Rattle.ss_journal.proofs.StepLemmas.{step-next}
use Rattle.ss_journal.proofs.marking.mark.Goals as goal

pub returns : goal.returns
returns g c =
    step-next c.in_ok-begin.ensures c.write_through.ensures.wrote
    (λ told then begins wrote. marked-joined _ _ _ _ c.write_through.result (c.requires.free told) begins wrote)
