pub mod Once
pub mod Opened
pub mod Together
pub mod Stands
pub mod Orphans
