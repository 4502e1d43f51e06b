pub mod Waits
pub mod FutureStates
pub mod SpinPolicies
pub mod AcquireErrors
