pub mod Loops
pub mod Grouped
pub mod Agreeing
pub mod Writing
