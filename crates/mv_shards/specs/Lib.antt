pub mod Parts
pub mod Scripts
pub mod Histories
pub mod Kept
pub mod Installing
pub mod Reads
pub mod Leaves
pub mod Ledgers
