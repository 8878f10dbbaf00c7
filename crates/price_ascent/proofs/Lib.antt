pub mod NoneFacts
pub mod SlopeFacts
