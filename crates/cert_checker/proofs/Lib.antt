pub mod ReadFacts
pub mod OutsideFacts
pub mod StepFacts
pub mod SoundFacts
pub mod OneVerdict
pub mod AcceptFacts
