pub mod TestLemmas
pub mod BetweenLemmas
pub mod RunLemmas
pub mod FillLemmas
pub mod CheckLemmas
pub mod SumLemmas
pub mod MadeLemmas
mod MadeRows
mod MeanRows
pub mod SharpLemmas
pub mod SharpAnswers
mod SharpRows
pub mod CalledLemmas
mod CalledRows
pub mod Rows
