pub mod Answer
pub mod Held
pub mod Image
pub mod Kept
pub mod Owned
