pub mod Chain
pub mod Stages
pub mod Naming
pub mod Sizes
pub mod Fitting
pub mod Orphaned
