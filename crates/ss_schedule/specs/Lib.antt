pub mod Pairs
pub mod Keyed
pub mod Held
pub mod Times
