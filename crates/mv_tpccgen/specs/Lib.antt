pub mod Calls
pub mod Draws
pub mod Loads
pub mod Names
pub mod Rows
pub mod Tables
pub mod Workload
pub mod Writing
