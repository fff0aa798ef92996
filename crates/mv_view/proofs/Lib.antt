pub mod Finding
pub mod Passing
