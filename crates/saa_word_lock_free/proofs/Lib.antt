pub mod KeptPlaces
pub mod NewPlaces
pub mod Turning
pub mod Refusals
