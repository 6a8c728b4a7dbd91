use Rattle.ss_model.proofs.Tiles.{AreWindows-closed}
use Rattle.ss_model.proofs.laws.closing_keeps_windows.Goals as goal

pub returns : goal.returns
returns c = AreWindows-closed
