pub mod Opening
pub mod Parents
