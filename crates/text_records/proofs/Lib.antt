pub mod RowFacts
pub mod FieldFacts
pub mod ReaderFacts
pub mod NameFacts
pub mod LineFacts
pub mod StepFacts
