-- What a stream holds: all values that it was ever given, which a store no longer has one by one.
use Rattle.std.specs.Prelude.{◌≡◌, ℕ, ◌≤◌, ℤ, IsTrue, FitsSigned, List, length, map, All}
use Rattle.std.specs.Int.{w64}
use Rattle.ss_base.specs.declared.limits.TheConstants.{LAST_TIME}
use Rattle.ss_catalog.specs.declared.params.Params.{Params}
use Rattle.ss_landmarks.specs.Free.{is_free}
use Rattle.ss_landmarks.specs.Landmark.{Landmark}
use Rattle.ss_landmarks.specs.Order.{AreLandmarks}
use Rattle.ss_base.specs.declared.limits.TheConstants.{MOST_VALUES}
use Rattle.ss_targets.specs.Lengths.{has_target}
use Rattle.ss_summary.specs.Points.{Point}
use Rattle.ss_model.specs.History.{landmarks_of, values_of, Happened}
use Rattle.ss_model.specs.Marks.{marked_values}
use Rattle.ss_model.specs.Origins.{unfiltered_window}
use Rattle.ss_targets.specs.Rule.{rule_of}
use Rattle.ss_model.specs.State.{Stream}
use Rattle.ss_model.specs.Truth.{RiseAtFree, true_count, true_sum}
use Rattle.ss_model.specs.Windows.{windows}
use Rattle.ss_model.specs.declared.types.Window.{Window}

-- the parameters of a stream, its values outside landmarks, and its landmarks with their values
pub record Contents : Type 0 where
  pub params : Params
  pub plain : List Point
  pub landmarks : List Landmark

-- what a history gave one of its streams
abbrev pub contents_of : List Happened → Stream → Contents
contents_of history s = record { params = s.params; plain = values_of history s.name; landmarks = landmarks_of history s.name }

-- the windows of all its values outside landmarks
abbrev pub own_windows : Contents → List Window
own_windows c = windows (rule_of c.params) c.plain

-- a value that a command can say: its time isn't above the last one, and it has 64 bits
abbrev pub IsSayableValue : Point → Type 0
IsSayableValue p = (p.0 ≤ LAST_TIME) × FitsSigned w64 p.1

-- a stream may hold this: it has a target, its values outside landmarks are at most 2^40, each can be said, and they stand at
-- rising times that no landmark covers, and its landmarks are in order of time
pub record AreContents (c : Contents) : Type 0 where
  pub target : IsTrue (has_target c.params)
  pub few : length c.plain ≤ MOST_VALUES
  pub sayable : All IsSayableValue c.plain
  pub rising : RiseAtFree (is_free c.landmarks) 0 c.plain
  pub landmarks : AreLandmarks c.landmarks

-- windows, apart from their filters
abbrev pub unfiltered_windows : List Window → List Window
unfiltered_windows ws = map unfiltered_window ws

-- nothing that a store keeps tells two contents apart, but for the filters of windows: they have the same parameters, the same
-- landmarks with their values, and the same number of values outside them, with windows that differ in their filters at most
pub record Like (c d : Contents) : Type 0 where
  pub params : c.params ≡ d.params
  pub landmarks : c.landmarks ≡ d.landmarks
  pub number : length c.plain ≡ length d.plain
  pub windows : unfiltered_windows (own_windows c) ≡ unfiltered_windows (own_windows d)

-- how many values have times in from..=to, and their sum
abbrev pub count_in : ℕ → ℕ → Contents → ℕ
count_in from to c = true_count from to c.plain (marked_values c.landmarks)

abbrev pub sum_in : ℕ → ℕ → Contents → ℤ
sum_in from to c = true_sum from to c.plain (marked_values c.landmarks)
