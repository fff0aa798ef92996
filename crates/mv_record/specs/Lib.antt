pub mod Runs
pub mod Paths
pub mod Writes
pub mod Admitting
pub mod Effects
pub mod Databases
pub mod Samples
pub mod Composing
