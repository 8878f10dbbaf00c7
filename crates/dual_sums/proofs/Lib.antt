pub mod CostGrowFacts
pub mod CostSizeFacts
pub mod GrowFacts
pub mod RowGrowFacts
pub mod SlotFacts
pub mod SumsFacts
pub mod TimesFacts
pub mod ValueFacts
