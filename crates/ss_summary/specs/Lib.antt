pub mod Points
pub mod Filters
pub mod Figures
pub mod Summaries
pub mod Possible
