-- What is shown of a state.
use Rattle.std.specs.Prelude.{length}
use Rattle.ss_landmarks.specs.Landmark.{all_values}
use Rattle.ss_model.specs.Closed.{last_position}
use Rattle.ss_model.specs.State.{Stream, values_in}
use Rattle.ss_model.specs.declared.types.Placed.{Placed}
use Rattle.ss_model.specs.declared.types.StreamRow.{StreamRow}
use Rattle.ss_model.specs.declared.types.Window.{Window}

-- a stream as it is listed
abbrev pub row_of : Stream → StreamRow
row_of s = record {
  id = record { 0 = s.number };
  name = s.name;
  params = s.params;
  n = values_in s;
  k = length s.windows;
  landmarks = length s.landmarks;
  values = length (all_values s.landmarks);
}

-- a window as it is read
abbrev pub placed_of : Window → Placed
placed_of w = record { first = w.first; last = last_position w; summary = w.summary }
