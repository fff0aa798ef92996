pub mod Repairing
pub mod Keys
pub mod Walking
pub mod Stepping
