pub mod Parts
pub mod Sides
pub mod Lending
pub mod Growing
pub mod Pushing
pub mod Closing
pub mod Cutting
