pub mod Causes
pub mod Laws
pub mod Examples
pub mod Walking
pub mod Text
pub mod Texts
