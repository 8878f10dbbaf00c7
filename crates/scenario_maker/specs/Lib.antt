pub mod Made
pub mod Courses
pub mod Order
pub mod Writing
