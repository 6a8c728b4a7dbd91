pub mod CommandLemmas
pub mod LeftLemmas
mod Rows
