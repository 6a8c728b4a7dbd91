pub mod FrameLemmas
mod Rows
mod MeanRows
