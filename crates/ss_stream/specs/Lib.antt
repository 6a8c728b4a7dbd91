pub mod Calls
pub mod Slots
pub mod Held
pub mod Joining
pub mod Marking
pub mod Changing
pub mod Indexed
pub mod Dropping
