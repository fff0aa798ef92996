pub mod Commits
pub mod Admitting
pub mod Hitting
pub mod Tables
pub mod Drafting
