pub mod BoundFacts
pub mod CostFacts
pub mod PairFacts
pub mod PlaceFacts
pub mod WordFacts
