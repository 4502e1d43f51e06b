pub mod Counts
pub mod FittingFronts
pub mod Refusing
pub mod Leaving
