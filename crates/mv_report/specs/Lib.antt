pub mod Text
pub mod Serial
pub mod Graphs
pub mod Shown
pub mod JournalLines
pub mod History
