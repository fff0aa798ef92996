pub mod Escapes
pub mod Pictures
pub mod Shapes
pub mod Xml
