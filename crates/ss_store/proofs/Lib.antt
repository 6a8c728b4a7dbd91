pub mod Common
pub mod OneOfMany
pub mod Removed
pub mod DroppedRecords
pub mod Dropping
pub mod ShorterStates
pub mod Among
pub mod EventCounts
pub mod EventsHeld
pub mod KeptStates
pub mod Unformed
pub mod ClosingAll
pub mod Clearings
pub mod Settlings
pub mod Opens
pub mod SurveyAnswers
pub mod SurveyedStreams
pub mod PlaceLemmas
pub mod LiveCounts
pub mod Named
pub mod Found
pub mod Refusals
pub mod WindowsHeld
pub mod RowsHeld
pub mod Stepping
pub mod Created
pub mod Valued
pub mod Spared
pub mod Decays
pub mod Looking
pub mod WindowsRead
pub mod AskedStreams
pub mod AnsweredQueries
mod ChangedSlots
mod LastWindows
mod NewestWindows
mod ToldNewest
pub mod ReadRefusals
mod Rows
mod OldRows
mod AskRows
mod NewestRows
mod CallRows
mod DropRows
mod ClearingRows
pub mod FoundAlike
pub mod Steps
pub mod Applying
pub mod Sealed
pub mod Taking
pub mod ValueTaking
pub mod MarkTaking
pub mod Creating
pub mod Dropped
pub mod IndexedStreams
pub mod Uses
pub mod Extents
mod ExtentRows
mod UsesRows
