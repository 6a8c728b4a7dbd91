pub mod WholeMaps
pub mod Lists
pub mod Permutations
pub mod PutLemmas
pub mod MarkRecords
pub mod LatestTimes
pub mod Records
pub mod Places
