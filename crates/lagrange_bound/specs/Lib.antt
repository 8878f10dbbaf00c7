pub mod Moves
pub mod Rounds
pub mod Taking
pub mod Sums
pub mod Limits
pub mod Best
pub mod Work
