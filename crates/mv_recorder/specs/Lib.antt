pub mod Sites
pub mod Scenes
pub mod Undoing
pub mod Running
