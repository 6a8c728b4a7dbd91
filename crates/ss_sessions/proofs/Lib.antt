pub mod CopyLemmas
pub mod CursorLemmas
pub mod Rows
