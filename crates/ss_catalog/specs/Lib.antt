pub mod Names
pub mod NameLaws
pub mod Params
pub mod Refusal
pub mod Events
pub mod Queries
pub mod Series
pub mod Catalog
