pub mod Joining
pub mod Listing
pub mod Covering
pub mod Judging
pub mod Alike
pub mod Zipping
