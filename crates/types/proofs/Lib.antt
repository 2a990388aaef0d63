pub mod Trying
pub mod Arms
pub mod Rows
pub mod Maybes
pub mod Contained
pub mod Within
