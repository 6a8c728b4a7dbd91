-- The rows that a command shows, one after another: which of them are left, and what starting them and taking one leaves.
use Rattle.std.specs.Prelude.{◌≡◌, ℕ, ◌+◌, ◌-◌, ◌<◌, ◌≤◌, List, [], ◌∷◌, length, take, drop, Option, Some, None, IsSome, IfSome, Result, Ok, Err, ⊤}
use Rattle.ss_catalog.specs.Series.{IsSeriesInRange, row_count, whole_query}
use Rattle.ss_catalog.specs.declared.series.Series.{Series}
use Rattle.ss_command.specs.declared.command.Command.{Command}
use Rattle.ss_landmarks.specs.Landmark.{all_values}
use Rattle.ss_landmarks.specs.declared.landmarks.TheConstants.{MOST_LANDMARK_SLOTS}
use Rattle.ss_line.specs.Line.{StandsIn, index_of}
use Rattle.ss_line.specs.declared.entry.At.{At}
use Rattle.ss_line.specs.declared.entry.Entry.{Entry}
use Rattle.ss_model.specs.State.{Stream, state, stream_numbered}
use Rattle.ss_outside.specs.Crash.{OnlyReads}
use Rattle.ss_outside.specs.Disk.{Told}
use Rattle.ss_parts.specs.declared.parts.StreamParts.{StreamParts}
use Rattle.ss_report.specs.declared.reply.Reply.{Reply}
use Rattle.ss_store.specs.Asked.{refuses_query_held}
use Rattle.ss_store.specs.Kept.{StoreIsIn, StoreState, part_numbered}
use Rattle.ss_store.specs.Recover.{Stands}
use Rattle.ss_store.specs.declared.store.values.ValueRange.{ValueRange}
use Rattle.ss_program.specs.Line.{History, command_brings, series_rows, stream_rows, value_rows, window_rows}
use Rattle.ss_program.specs.declared.rows.Rows.{Rows}
use Rattle.ss_program.specs.declared.rows.Rows.TheVariants as left
use Rattle.ss_program.specs.declared.status.Status.{Status}

-- the place among the windows of a stream of the one that is next, behind them all where none is
abbrev pub place_next : List (At × Entry) → Option At → ℕ
place_next entries None = length entries
place_next entries (Some at) = index_of entries at

-- the rows of the windows of a stream from the next one on, as the stream is held and as it stands
abbrev pub windows_left : Option StreamParts → Option At → Option Stream → List Reply
windows_left None next stream = []
windows_left (Some part) next None = []
windows_left (Some part) next (Some s) = drop (place_next part.line.entries next) (window_rows s)

-- the rows of values of landmarks of a stream that stand together
abbrev pub values_left : Option StreamParts → ValueRange → List Reply
values_left None range = []
values_left (Some part) range = value_rows (take range.count (drop range.first (all_values part.landmarks.landmarks)))

-- the rows that are left, over the streams as they are held and as they stand
abbrev pub rows_left : Rows → List StreamParts → List Stream → List Reply
rows_left left.End parts streams = []
rows_left (left.Windows id next) parts streams = windows_left (part_numbered id.0 parts) next (stream_numbered id.0 streams)
rows_left (left.Streams next) parts streams = drop next (stream_rows streams)
rows_left (left.Values range) parts streams = values_left (part_numbered range.id.0 parts) range
rows_left (left.Series series next) parts streams = drop next (series_rows streams series)
rows_left (left.Lines lines next) parts streams = drop next lines.items

-- how many windows of a stream are left
abbrev pub windows_count : Option StreamParts → Option At → ℕ
windows_count None next = 0
windows_count (Some part) next = length part.line.entries - place_next part.line.entries next

-- how many rows are left
abbrev pub count_left : Rows → List StreamParts → ℕ
count_left left.End parts = 0
count_left (left.Windows id next) parts = windows_count (part_numbered id.0 parts) next
count_left (left.Streams next) parts = length parts - next
count_left (left.Values range) parts = range.count
count_left (left.Series series next) parts = row_count series - next
count_left (left.Lines lines next) parts = length lines.items - next

-- The stream of a number is held, with the window that is next.
pub record WindowStands (parts : List StreamParts) (number : ℕ) (next : Option At) : Type 0 where
  pub stands : IsSome (part_numbered number parts)
  pub at : IfSome (part_numbered number parts) (λ part. IfSome next (StandsIn part.line.entries))

-- The stream of values of landmarks is held, with these values.
pub record ValuesStand (parts : List StreamParts) (range : ValueRange) : Type 0 where
  pub stands : IsSome (part_numbered range.id.0 parts)
  pub within : IfSome (part_numbered range.id.0 parts) (λ part. range.first + range.count ≤ length (all_values part.landmarks.landmarks))
  pub few : range.first + range.count ≤ MOST_LANDMARK_SLOTS

-- The stream of a series is held, and the series isn't refused.
pub record SeriesStands (parts : List StreamParts) (series : Series) : Type 0 where
  pub range : IsSeriesInRange series
  pub taken : refuses_query_held parts (whole_query series) ≡ None

-- Rows can be taken over the streams that are held. So it is as long as these stay as they were.
abbrev pub RowsStand : List StreamParts → Rows → Type 0
RowsStand parts left.End = ⊤
RowsStand parts (left.Windows id next) = WindowStands parts id.0 next
RowsStand parts (left.Streams next) = ⊤
RowsStand parts (left.Values range) = ValuesStand parts range
RowsStand parts (left.Series series next) = SeriesStands parts series
RowsStand parts (left.Lines lines next) = ⊤

-- the replies to a command after each history for which the content stands are this head and then these rows
abbrev pub AreBrought : Command → List StreamParts → (Reply × Rows) → List ℕ → Type 0
AreBrought command parts begun content = (history : History) → Stands history content →
    (command_brings history command).replies ≡ begun.0 ∷ rows_left begun.1 parts (state history)

-- A command that needs no disk has begun: its head, and its rows, which can be taken.
pub record Begins (command : Command) (store : StoreState) (begun : Reply × Rows) : Type 0 where
  pub brings : (content : List ℕ) → StoreIsIn store content → AreBrought command store.streams begun content
  pub stand : RowsStand store.streams begun.1

-- a reply was the first of those that were left, with these behind it, or none was left; a call fails only where one was left
abbrev pub IsFirstOf : Result (Option Reply) Status → List Reply → List Reply → Type 0
IsFirstOf (Ok None) before after = (before ≡ []) × (after ≡ [])
IsFirstOf (Ok (Some reply)) before after = before ≡ reply ∷ after
IsFirstOf (Err status) before after = 0 < length before

-- A call that only reads takes the first of the rows that are left, after each history for which the content stands.
pub record TakesRow (parts : List StreamParts) (before after : Rows) (result : Result (Option Reply) Status) (old new : Told) : Type 0 where
  pub row : (history : History) → Stands history old.content →
      IsFirstOf result (rows_left before parts (state history)) (rows_left after parts (state history))
  pub reads : OnlyReads old new

-- Where a row was taken fewer are left, and they can be taken.
pub record RowsGoOn (before after : Rows) (parts : List StreamParts) (taken : Option Reply) : Type 0 where
  pub stand : RowsStand parts after
  pub fewer : IfSome taken (λ _. count_left after parts < count_left before parts)

-- A row was taken that needs no disk.
pub record TakesHeld (store : StoreState) (before after : Rows) (taken : Option Reply) : Type 0 where
  pub row : (content : List ℕ) → StoreIsIn store content → (history : History) → Stands history content →
      IsFirstOf (Ok taken) (rows_left before store.streams (state history)) (rows_left after store.streams (state history))
  pub goes_on : RowsGoOn before after store.streams taken
