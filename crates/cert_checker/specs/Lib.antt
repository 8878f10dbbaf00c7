pub mod Checks
pub mod Claims
pub mod Fronts
pub mod Outside
pub mod Steps
pub mod Verdicts
pub mod Accepted
