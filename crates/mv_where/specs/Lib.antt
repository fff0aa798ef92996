pub mod Places
pub mod Refusal
