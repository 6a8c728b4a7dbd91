pub mod Runs
pub mod Fill
pub mod Checked
pub mod Evidence
pub mod Made
pub mod Shown
pub mod Called
pub mod Told
