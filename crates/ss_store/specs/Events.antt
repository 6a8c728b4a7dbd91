-- How many events a stream has taken since its create, by what is held of it.
use Rattle.std.specs.Prelude.{ℕ, ◌+◌, Bool, List, length, is_some}
use Rattle.std.specs.List.{count_by}
use Rattle.ss_landmarks.specs.Landmark.{Landmark, all_values}
use Rattle.ss_parts.specs.Held.{entries_of}
use Rattle.ss_parts.specs.declared.parts.StreamParts.{StreamParts}
use Rattle.ss_stream.specs.Held.{values_held}

-- whether a landmark is closed
abbrev pub is_closed : Landmark → Bool
is_closed l = is_some l.finish

-- how many events gave a stream its landmarks: one opened each of them, one closed each that is closed, and one was each value
abbrev pub mark_events : List Landmark → ℕ
mark_events landmarks = length landmarks + count_by is_closed landmarks + length (all_values landmarks)

-- how many events a stream has taken: its create, its values outside landmarks, and those of its landmarks
abbrev pub events_held : StreamParts → ℕ
events_held part = 1 + values_held (entries_of part) + mark_events part.landmarks.landmarks
