pub mod Mirroring
pub mod Events
pub mod Registered
pub mod Alone
pub mod Quiet
pub mod Ends
pub mod Books
