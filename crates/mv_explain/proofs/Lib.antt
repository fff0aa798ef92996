pub mod Repairing
pub mod Telling
