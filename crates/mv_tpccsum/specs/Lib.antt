pub mod Tables
pub mod Consistent
pub mod Calls
pub mod Summary
pub mod Grouping
