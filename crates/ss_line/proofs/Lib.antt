pub mod PlaceLemmas
pub mod IndexLemmas
pub mod HeldLemmas
pub mod PushLemmas
pub mod CutLemmas
pub mod Places
pub mod Rows
