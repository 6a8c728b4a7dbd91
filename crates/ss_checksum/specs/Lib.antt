pub mod Checksum
pub mod Changes
pub mod Codeword
