pub mod Table
pub mod Calls
pub mod Jumps
pub mod Mirror
pub mod Labels
