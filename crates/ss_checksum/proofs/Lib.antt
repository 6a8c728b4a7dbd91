mod Rows
pub mod ChangeLemmas
pub mod CodewordLemmas
pub mod ParityLemmas
pub mod ReturnLemmas
pub mod StepLemmas
pub mod TableLemmas
pub mod WordLemmas
