pub mod WalkFacts
pub mod TimeFacts
pub mod ReachFacts
pub mod WayFacts
pub mod WorkedWalks
