pub mod Viewing
pub mod Narrowing
