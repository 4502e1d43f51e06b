pub mod HandedBack
pub mod Refusals
