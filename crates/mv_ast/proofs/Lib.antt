pub mod Limited
pub mod Counting
pub mod Holding
pub mod Standing
pub mod Keyed
