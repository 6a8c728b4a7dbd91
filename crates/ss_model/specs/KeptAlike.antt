-- Streams of which a store keeps the same in memory, whatever the figures of their windows.
use Rattle.std.specs.Prelude.{◌≡◌, List, length}
use Rattle.std.specs.List.{AllZip}
use Rattle.ss_model.specs.State.{Stream, values_in, last_time}

-- two streams have one number, name and parameters, as many values and windows, the same landmarks, and one last time
pub record AreKeptAlike (s other : Stream) : Type 0 where
  pub number : s.number ≡ other.number
  pub name : s.name ≡ other.name
  pub params : s.params ≡ other.params
  pub values : values_in s ≡ values_in other
  pub windows : length s.windows ≡ length other.windows
  pub landmarks : s.landmarks ≡ other.landmarks
  pub last_time : last_time s ≡ last_time other

-- the same of each, in order
abbrev pub AllKeptAlike : List Stream → List Stream → Type 0
AllKeptAlike streams others = AllZip AreKeptAlike streams others
