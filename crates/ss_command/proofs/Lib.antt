pub mod LineLemmas
mod LineLaws
pub mod ReaderLemmas
pub mod GrammarLemmas
pub mod NumberLemmas
pub mod PutLemmas
pub mod PrintLemmas
mod SpacedLemmas
pub mod SayLemmas
pub mod WordLemmas
mod Rows
pub mod TableLemmas
mod MeanRows
