pub mod Licence
pub mod Point
pub mod Relaxed
pub mod Telling
