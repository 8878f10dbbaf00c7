pub mod ForestFacts
pub mod LawfulFacts
pub mod PathFacts
pub mod TreeFacts
pub mod WorkedTrees
