pub mod Puts
pub mod Settlings
