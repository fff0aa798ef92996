pub mod Rooms
pub mod Lives
pub mod Calls
pub mod Books
pub mod Drives
pub mod Cores
pub mod Output
