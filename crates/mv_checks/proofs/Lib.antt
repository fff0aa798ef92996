pub mod Referring
pub mod Running
