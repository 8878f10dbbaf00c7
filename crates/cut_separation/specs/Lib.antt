pub mod Exceeding
pub mod Framed
pub mod Points
pub mod Whole
