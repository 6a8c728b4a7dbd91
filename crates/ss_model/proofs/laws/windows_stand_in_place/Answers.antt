use Rattle.ss_model.proofs.Tiles.{first-from_AreWindows, IsPossible-from_AreWindows, last_position-from_AreWindows}
use Rattle.ss_model.proofs.laws.windows_stand_in_place.Goals as goal

pub returns : goal.returns
returns c = record { place = first-from_AreWindows; possible = IsPossible-from_AreWindows; last = last_position-from_AreWindows }
