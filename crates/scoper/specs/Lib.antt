pub mod Scoping
pub mod Meaning
