pub mod Line
pub mod Chain
pub mod Held
