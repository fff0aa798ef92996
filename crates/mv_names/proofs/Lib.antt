pub mod Unrolled
pub mod Ordered
pub mod Taken
pub mod Finding
pub mod Indexing
