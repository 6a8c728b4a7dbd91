use Rattle.ss_model.proofs.Tiles.{AreNeighbours-from_AreWindows}
use Rattle.ss_model.proofs.laws.windows_are_neighbours.Goals as goal

pub returns : goal.returns
returns c = AreNeighbours-from_AreWindows
