pub mod Spans
pub mod Entries
pub mod Lending
pub mod Scans
pub mod Finding
pub mod FoundRows
