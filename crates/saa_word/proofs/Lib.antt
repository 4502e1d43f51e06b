pub mod Keeping
pub mod Holding
mod Seeking
mod Waits
pub mod Tracking
pub mod Machines
pub mod Histories
pub mod Solo
pub mod SoloRuns
