pub mod BlankLemmas
pub mod BufferLemmas
mod Rows
pub mod WhyLemmas
