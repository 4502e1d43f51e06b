pub mod Words
pub mod Links
