pub mod Scripts
pub mod Knowing
pub mod Rule
pub mod Names
