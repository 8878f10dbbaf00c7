pub mod AnswerFacts
pub mod CertifyingFacts
pub mod CheckingFacts
pub mod CompleteFacts
pub mod JudgingFacts
pub mod OwnDigest
pub mod OwnSizes
pub mod OwnRows
pub mod OwnCuts
pub mod OwnPlan
pub mod OwnNodes
pub mod OwnFacts
mod WorkedCases
mod WorkedRuns
pub mod PlanningFacts
