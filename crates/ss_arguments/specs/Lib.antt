pub mod Modes
pub mod Places
