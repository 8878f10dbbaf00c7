pub mod Arena
pub mod Combining
pub mod Desks
pub mod Products
pub mod Rows
pub mod Shelves
