pub mod FrameLemmas
pub mod PieceLemmas
mod Rows
mod StepRows
