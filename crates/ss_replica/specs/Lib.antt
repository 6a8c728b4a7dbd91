pub mod Own
pub mod Offers
pub mod Held
pub mod Fronts
