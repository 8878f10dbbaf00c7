pub mod Names
pub mod Kinds
pub mod Trips
pub mod Plans
pub mod Lines
