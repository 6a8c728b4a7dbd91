pub mod CrashLemmas
pub mod DiskLemmas
pub mod MemDiskCalls
pub mod MemDiskLemmas
pub mod MemDiskTime
pub mod PastLemmas
mod Rows
mod DeviceRows
mod SpareRows
mod StepRows
mod VerdictRows
pub mod StepLemmas
