pub mod Stored
pub mod Changes
pub mod Kept
pub mod Opened
pub mod Indexed
