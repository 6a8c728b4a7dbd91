pub mod Calls
pub mod Holds
pub mod InTurn
pub mod Many
pub mod Opens
pub mod Showing
pub mod Typed
