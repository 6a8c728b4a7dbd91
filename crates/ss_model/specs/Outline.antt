-- The outline of a stream: what an event of it is judged by.
use Rattle.std.specs.Prelude.{ℕ, List, Option}
use Rattle.std.specs.Option.{option_map}
use Rattle.ss_landmarks.specs.Landmark.{Landmark}
use Rattle.ss_model.specs.State.{Stream, stream_named, values_in, last_time}

-- the last time of a stream, where it has one, its landmarks, and how many values it has taken outside them
pub record Outline : Type 0 where
  pub last_time : Option ℕ
  pub landmarks : List Landmark
  pub values : ℕ

-- that of a stream that stands
abbrev pub outline_of : Stream → Outline
outline_of s = record { last_time = last_time s; landmarks = s.landmarks; values = values_in s }

-- that of the stream of a name, where it stands
abbrev pub outline_named : List ℕ → List Stream → Option Outline
outline_named name streams = option_map outline_of (stream_named name streams)
