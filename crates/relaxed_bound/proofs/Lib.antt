pub mod LicenceFacts
pub mod BareFacts
pub mod PointFacts
pub mod RowsFacts
pub mod RunFacts
pub mod ToldFacts
