pub mod Building
pub mod Resolving
