pub mod Landmark
pub mod Free
pub mod Order
pub mod ValuesIn
pub mod Newest
pub mod Landmarks
pub mod Stored
