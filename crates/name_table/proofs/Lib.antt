pub mod Names
pub mod Marks
