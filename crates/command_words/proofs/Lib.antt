pub mod BuildFacts
pub mod FormFacts
pub mod GetFacts
pub mod LineFacts
pub mod NumberFacts
pub mod OptionFacts
pub mod PlanFacts
pub mod AskedFacts
pub mod RowFacts
pub mod StepFacts
pub mod TopFacts
mod WorkedCases
