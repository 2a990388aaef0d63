pub mod Vectors
pub mod Limits
pub mod Rooms
