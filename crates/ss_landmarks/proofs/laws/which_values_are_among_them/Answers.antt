use Rattle.ss_landmarks.proofs.AmongLemmas.{Contains-is_among, is_among-Contains}
use Rattle.ss_landmarks.proofs.laws.which_values_are_among_them.Goals as goal

pub returns : goal.returns
returns c v values = (Contains-is_among v values, is_among-Contains v values)
