pub mod Batch
pub mod Lawful
pub mod Places
pub mod Rounds
pub mod Outcomes
pub mod Laws
pub mod Serializable
pub mod Examples
