pub mod Bounds
pub mod FilterLemmas
pub mod PossibleLemmas
pub mod Rows
pub mod SummaryLemmas
pub mod Values
