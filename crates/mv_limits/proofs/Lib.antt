pub mod Joining
pub mod TextLaws
pub mod Fronts
pub mod Counting
pub mod Least
