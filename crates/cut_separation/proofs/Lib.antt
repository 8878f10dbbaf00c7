pub mod FirstFacts
pub mod ValueFacts
pub mod CutSizeFacts
pub mod TakenFacts
pub mod WorkedWhole
pub mod PoolLaws
pub mod WholeLaws
