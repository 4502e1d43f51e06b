pub mod Fields
pub mod Outcome
pub mod Steps
pub mod Text
pub mod Transfer
