pub mod BitLemmas
pub mod TreeLemmas
pub mod LiveLemmas
pub mod PageLemmas
pub mod RecordLemmas
mod CallRows
pub mod Rows
