pub mod AbstractRuns
pub mod LockNeeds
pub mod Giving
pub mod Ranges
