use Rattle.ss_laws.proofs.ExpMeasures.{cover-exp}
use Rattle.ss_laws.proofs.exp_laws.exp_windows_are_few.Goals as goal

pub returns : goal.returns
returns c = cover-exp
