pub mod Text
pub mod Explained
