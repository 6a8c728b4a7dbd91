use Rattle.ss_journal.proofs.BirthLemmas.{gate-opened}
use Rattle.ss_journal.proofs.StepLemmas.{step-from}
use Rattle.ss_journal.proofs.birth.open_gate.Goals as goal

pub returns : goal.returns
returns g c = step-from c.write_through.ensures.wrote (λ told wrote. gate-opened _ _ c.write_through.result (c.requires.formed told) wrote)
