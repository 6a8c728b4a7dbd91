-- Ranges that are made of whole steps of the clock.
use Rattle.std.specs.Prelude.{◌≡◌, ◌⊎◌, ℕ, ◌+◌, ◌%◌, ◌<◌, ◌≤◌, IfSome, List, Option, None, Some}
use Rattle.ss_catalog.specs.declared.series.Series.{Series}
use Rattle.ss_model.specs.State.{Stream, stream_named}
use Rattle.ss_model.specs.Windows.{newest_time}

-- the newest time of the values that a stream has outside landmarks, where it stands and has one
abbrev pub reached_in : Option Stream → Option ℕ
reached_in None = None
reached_in (Some s) = newest_time s.windows

-- and of the stream of a name
abbrev pub reached_by : List Stream → List ℕ → Option ℕ
reached_by streams name = reached_in (stream_named name streams)

-- A range begins at a boundary of the clock. The time after its last one is a boundary too, or no time is newer than its last one: where
-- the newest is known, it is that or an earlier one.
pub record AreWholeSteps (step : ℕ) (newest : Option ℕ) (from to : ℕ) : Type 0 where
  pub start : from % step ≡ 0
  pub end : ((to + 1) % step ≡ 0) ⊎ IfSome newest (λ t. t ≤ to)

-- the rows of a series are such ranges: its own is one, and each row has a number of whole steps
pub record HasWholeRows (step : ℕ) (newest : Option ℕ) (series : Series) : Type 0 where
  pub range : AreWholeSteps step newest series.from series.to
  pub rows : series.step % step ≡ 0
  pub some : 0 < series.step

-- the windows of the stream of a name, where it stands, cross no boundary of this step
abbrev pub IsWithin : ℕ → List Stream → List ℕ → Type 0
IsWithin step streams name = IfSome (stream_named name streams) (λ s. s.params.within ≡ Some step)
