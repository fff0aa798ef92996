pub mod Fitting
pub mod Reading
pub mod Lists
pub mod Words
pub mod Levels
pub mod Rests
pub mod Answers
pub mod Whole
