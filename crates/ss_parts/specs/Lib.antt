pub mod Held
pub mod Slots
pub mod Reading
pub mod Places
