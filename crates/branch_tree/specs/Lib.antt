pub mod Forests
pub mod Lawful
pub mod Leaves
pub mod Paths
pub mod Trees
