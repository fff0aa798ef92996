pub mod Steps
pub mod Nodes
pub mod Edges
pub mod Tests
