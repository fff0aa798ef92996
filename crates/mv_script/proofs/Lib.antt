pub mod Databases
pub mod Readers
pub mod Choosing
