pub mod Adding
pub mod Meaning
pub mod Small
pub mod Stepped
pub mod Asking
pub mod Equalities
pub mod Opening
