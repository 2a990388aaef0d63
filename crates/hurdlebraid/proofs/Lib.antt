pub mod Depths
pub mod Telling
pub mod Unique
