pub mod HeldBy
pub mod Pieces
