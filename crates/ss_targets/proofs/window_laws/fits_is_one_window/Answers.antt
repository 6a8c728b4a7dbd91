use Rattle.ss_targets.proofs.WindowingLemmas.{fits-one_window}
use Rattle.ss_targets.proofs.window_laws.fits_is_one_window.Goals as goal

pub returns : goal.returns
returns c = fits-one_window
