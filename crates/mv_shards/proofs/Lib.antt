pub mod Pieces
pub mod Histories
pub mod Stored
pub mod Reading
pub mod Sights
pub mod Ledgers
pub mod Firsts
