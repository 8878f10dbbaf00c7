pub mod Cheaper
pub mod Guides
pub mod Work
