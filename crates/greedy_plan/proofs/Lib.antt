pub mod FeasibleFacts
pub mod BoundFacts
