pub mod SettlingSteps
pub mod Asks
pub mod Waking
pub mod Semaphores
