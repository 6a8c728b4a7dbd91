pub mod FieldLemmas
pub mod FieldOrder
mod FilterSpelling
pub mod ParameterLemmas
pub mod RecordLemmas
mod Rows
mod DroppedRows
mod StepRows
pub mod WindowBytes
mod WindowRows
pub mod ZeroLemmas
