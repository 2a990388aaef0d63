pub mod Lay
pub mod Pass
pub mod Marked
