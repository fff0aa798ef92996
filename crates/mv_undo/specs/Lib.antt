pub mod Owned
pub mod Owning
pub mod Overlaying
pub mod Indexing
pub mod Taking
pub mod Indexed
