pub mod Csv
pub mod Fields
pub mod Fitting
pub mod Joining
pub mod Loading
pub mod Reading
pub mod Writing
