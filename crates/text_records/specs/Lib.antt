pub mod Errors
pub mod Rows
pub mod Reader
pub mod Fields
pub mod Names
pub mod Lines
