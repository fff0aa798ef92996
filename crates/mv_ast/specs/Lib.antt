pub mod Parts
pub mod Texts
pub mod Trees
pub mod Grammar
pub mod Lexemes
pub mod Limits
pub mod Standing
pub mod Keys
