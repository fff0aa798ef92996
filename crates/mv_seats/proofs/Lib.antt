pub mod Prefixes
pub mod Words
pub mod Marks
pub mod Roles
pub mod Meeting
pub mod Rules
pub mod Steps
