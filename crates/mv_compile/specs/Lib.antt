pub mod Compiled
pub mod Held
