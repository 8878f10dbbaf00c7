pub mod Greedy
pub mod FirstBound
pub mod Work
