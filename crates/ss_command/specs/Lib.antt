pub mod Lines
pub mod LineState
pub mod Words
pub mod Grammar
pub mod Printed
pub mod Said
pub mod Table
