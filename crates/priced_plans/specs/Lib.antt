pub mod Keys
pub mod Usage
pub mod Values
pub mod Valuing
pub mod PricedBound
