pub mod DelayFacts
pub mod MomentFacts
pub mod ReportFacts
pub mod TextFacts
mod WorkedMoments
mod WorkedReports
mod WorkedVerdicts
