pub mod Claims
pub mod Delays
pub mod Moments
pub mod Refusals
pub mod Texts
pub mod Verdicts
