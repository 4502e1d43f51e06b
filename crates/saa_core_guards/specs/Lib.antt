pub mod Guards
pub mod Permits
