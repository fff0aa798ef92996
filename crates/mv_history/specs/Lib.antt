pub mod Changes
pub mod Hits
pub mod Kept
pub mod Laws
pub mod Examples
