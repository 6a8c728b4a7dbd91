use Rattle.ss_targets.proofs.FirstFitLemmas.{IsFirstFit-now, IsFirstFit-later, Fits-never}
use Rattle.ss_targets.proofs.window_laws.first_fit_is_now_or_in_a_longer_window.Goals as goal

pub returns-clause-now : goal.returns-clause-now
returns-clause-now c = IsFirstFit-now

pub returns-clause-later : goal.returns-clause-later
returns-clause-later c = IsFirstFit-later

pub returns-clause-never : goal.returns-clause-never
returns-clause-never c len l r n full order taken unfit none m later fits = Fits-never len l r n m full order taken unfit none later fits
