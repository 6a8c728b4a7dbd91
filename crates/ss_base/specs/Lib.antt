pub mod Steps
pub mod Near
