pub mod BrokenRules
pub mod Tally
pub mod Contents
pub mod FirstBroken
pub mod Grid
pub mod Judge
pub mod Loads
