pub mod Fields
pub mod Record
pub mod Decoded
