pub mod Rising
pub mod Patching
pub mod Overwriting
