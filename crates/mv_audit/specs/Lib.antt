pub mod Comparing
pub mod Schedules
pub mod Examples
pub mod Laws
pub mod Verdicts
