pub mod TextFacts
pub mod PlainFacts
pub mod StepFacts
pub mod PlaceFacts
pub mod CapFacts
pub mod DayFacts
pub mod TableFacts
pub mod NodeFacts
pub mod LegFacts
pub mod FlightFacts
pub mod ConnectionFacts
pub mod TrafficFacts
pub mod ReadBack
pub mod MadeFacts
pub mod OrderFacts
pub mod MadeSizes
mod Worked
