pub mod Filling
pub mod Bits
