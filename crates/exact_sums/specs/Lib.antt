pub mod Leasts
pub mod Lists
pub mod Near
pub mod Sums
