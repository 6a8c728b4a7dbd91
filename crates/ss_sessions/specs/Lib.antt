pub mod Errors
pub mod Cursors
pub mod Opened
pub mod Grammar
pub mod Said
