pub mod Table
pub mod Calls
pub mod Functions
pub mod Bits
pub mod Depths
