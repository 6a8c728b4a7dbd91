-- What every state of a history meets.
use Rattle.std.specs.Prelude.{◌≤◌, IsTrue, List, length, All}
use Rattle.std.specs.List.{IsDistinct, list_all}
use Rattle.std.specs.List.Sorted.{IsStrictlyIncreasing}
use Rattle.ss_catalog.specs.Names.{same_name}
use Rattle.ss_catalog.specs.declared.TheConstants.{MOST_STREAMS, LAST_STREAM}
use Rattle.ss_landmarks.specs.Order.{AreLandmarks}
use Rattle.ss_targets.specs.Lengths.{has_target}
use Rattle.ss_targets.specs.Rule.{rule_of}
use Rattle.ss_model.specs.Decay.{IsInStep}
use Rattle.ss_model.specs.Marks.{lies_free}
use Rattle.ss_model.specs.State.{Stream, live, numbers_of, names_of}
use Rattle.ss_model.specs.Tiling.{AreWindows}
use Rattle.ss_model.specs.declared.types.TheConstants.{MOST_RECORDS}

-- a stream has a target, a number that a stream can have, the windows of some values, none of which crosses a boundary of its
-- step, landmarks in order of time, and no value outside them at a time that one covers
pub record IsStream (s : Stream) : Type 0 where
  pub target : IsTrue (has_target s.params)
  pub number : s.number ≤ LAST_STREAM
  pub windows : AreWindows s.windows
  pub steps : All (IsInStep (rule_of s.params).step) s.windows
  pub landmarks : AreLandmarks s.landmarks
  pub free : IsTrue (list_all (lies_free s.landmarks) s.windows)

-- numbers rise in order of creation, no two streams have one name, and all limits are kept
pub record IsState (streams : List Stream) : Type 0 where
  pub each : All IsStream streams
  pub numbers : IsStrictlyIncreasing (numbers_of streams)
  pub names : IsDistinct same_name (names_of streams)
  pub few : length streams ≤ MOST_STREAMS
  pub room : live streams ≤ MOST_RECORDS
