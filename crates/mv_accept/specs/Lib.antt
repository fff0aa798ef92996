pub mod Exact
pub mod Refusals
pub mod Accepting
pub mod Telling
