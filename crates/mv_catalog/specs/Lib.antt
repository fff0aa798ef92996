pub mod Fits
pub mod Types
pub mod Statements
pub mod Text
