pub mod Procedures
pub mod Script
pub mod Tables
