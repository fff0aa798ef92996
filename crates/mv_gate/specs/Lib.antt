pub mod Readers
pub mod Gates
