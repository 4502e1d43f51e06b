pub mod Totals
pub mod Keeping
pub mod Recording
pub mod Stepping
pub mod Opening
pub mod Ending
