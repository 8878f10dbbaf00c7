pub mod Counts
pub mod Held
pub mod Loads
pub mod Memory
pub mod Seen
pub mod Written
