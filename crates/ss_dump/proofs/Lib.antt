pub mod DigitLemmas
pub mod ReadLemmas
mod Rows
pub mod SumLemmas
