pub mod Bounds
pub mod Ways
pub mod Lines
pub mod Lowered
pub mod Kept
pub mod Counted
