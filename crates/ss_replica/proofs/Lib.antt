pub mod OwnLemmas
pub mod HeldLemmas
pub mod AlikeLemmas
pub mod FrontLemmas
pub mod FramingLemmas
mod Rows
