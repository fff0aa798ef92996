pub mod Versions
pub mod Undoing
pub mod Keeping
pub mod Holding
pub mod Having
