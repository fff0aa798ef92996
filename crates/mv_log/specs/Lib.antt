pub mod Parts
pub mod Fitting
pub mod Heads
pub mod Logged
pub mod Expanding
pub mod Cutting
