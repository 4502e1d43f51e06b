pub mod Rounds
pub mod Entering
pub mod GateNumbers
pub mod Gathering
pub mod Departing
