use Rattle.ss_model.proofs.Tiles.{AreWindows_joined}
use Rattle.ss_model.proofs.laws.joining_keeps_windows.Goals as goal

pub returns : goal.returns
returns c = AreWindows_joined
