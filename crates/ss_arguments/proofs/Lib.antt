pub mod NumberLemmas
pub mod ModeLemmas
pub mod PlaceLemmas
mod Rows
