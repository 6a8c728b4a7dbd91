-- The newest value of landmarks.
use Rattle.std.specs.Prelude.{List, Option, None}
use Rattle.std.specs.List.{last_or}
use Rattle.ss_landmarks.specs.Landmark.{Landmark, LandmarkValue, all_values}

-- the newest value of all landmarks, where there is one
abbrev pub newest_value : List Landmark → Option LandmarkValue
newest_value landmarks = last_or None (all_values landmarks)
