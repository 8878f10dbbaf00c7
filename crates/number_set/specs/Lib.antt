pub mod Few
pub mod Numbers
