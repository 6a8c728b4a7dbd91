pub mod NearSums
pub mod MarkedTallies
pub mod Rooms
pub mod Presences
pub mod Seeing
pub mod Outcomes
pub mod SplitLemmas
pub mod SeenEntries
pub mod NextWindow
pub mod Looks
pub mod AskedWindows
mod Rows
