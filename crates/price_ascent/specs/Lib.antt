pub mod OneProof
pub mod Slopes
pub mod Work
