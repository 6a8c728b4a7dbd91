pub mod WindowingLemmas
pub mod FirstFitLemmas
pub mod GroupLemmas
pub mod ExpLemmas
pub mod WindowRows
mod PowerRows
pub mod PowerLemmas
pub mod SumLemmas
pub mod ClosedFormLemmas
mod TargetRows
pub mod LengthLemmas
pub mod FitLemmas
