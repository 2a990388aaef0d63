pub mod Parts
pub mod Script
pub mod Ends
