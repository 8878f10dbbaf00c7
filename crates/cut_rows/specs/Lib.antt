pub mod Cuts
pub mod OneProof
pub mod Order
pub mod Pools
pub mod Relaxations
pub mod Routes
pub mod Table
