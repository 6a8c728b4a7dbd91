use Rattle.ss_model.proofs.Tiles.{AreWindows_push}
use Rattle.ss_model.proofs.laws.append_keeps_windows.Goals as goal

pub returns : goal.returns
returns c = AreWindows_push
