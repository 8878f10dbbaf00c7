pub mod FlightFacts
pub mod PlaceFacts
pub mod NetworkFacts
pub mod ChangeFacts
pub mod DraftFacts
pub mod CountFacts
pub mod RouteFacts
pub mod FinishFacts
pub mod RoomFacts
pub mod TableFacts
pub mod ReadingFacts
pub mod ValidFields
pub mod ValidRecords
pub mod ValidLegs
pub mod ValidTables
pub mod KeptFacts
pub mod ValidTexts
mod Worked
