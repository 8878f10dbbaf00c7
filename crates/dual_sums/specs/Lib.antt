pub mod Dual
pub mod Growing
pub mod Rows
pub mod Slots
pub mod Sums
