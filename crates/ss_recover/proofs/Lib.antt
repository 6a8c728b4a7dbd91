pub mod Common
pub mod InOrder
pub mod Marks
pub mod MarkConditions
pub mod WholeSlots
pub mod HeldRecords
pub mod SoundStreams
pub mod SoundNumbers
pub mod DroppedRecords
pub mod DroppedMaps
pub mod GatherLemmas
pub mod Unordered
pub mod DoomedLemmas
pub mod RebuiltRecords
pub mod RebuiltParts
pub mod HeldLemmas
pub mod RunSound
pub mod RunStanding
pub mod WindowLaws
pub mod MarkLaws
pub mod RunStream
pub mod RunHeld
pub mod RunsDone
mod Rows
mod RunRows
