pub mod Needs
pub mod Readings
pub mod AbstractState
pub mod Steps
