pub mod CatalogLemmas
pub mod NameLemmas
pub mod SeriesLemmas
mod Rows
