pub mod Listed
pub mod Forms
pub mod Indexing
pub mod Asking
