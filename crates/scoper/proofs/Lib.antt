pub mod Scoping
pub mod Unique
pub mod Meaning
pub mod Sheet
