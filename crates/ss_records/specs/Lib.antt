pub mod Bits
pub mod Tree
pub mod Live
pub mod Pages
pub mod Kept
pub mod Calls
