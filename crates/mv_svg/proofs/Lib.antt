pub mod Characters
pub mod Chains
pub mod Elements
pub mod Pieces
