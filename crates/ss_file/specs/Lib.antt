pub mod FileDisk
pub mod Opening
pub mod Reason
pub mod System
