pub mod FieldLemmas
pub mod ReadNumbers
pub mod WordLemmas
mod Rows
