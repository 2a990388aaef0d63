pub mod Refusals
pub mod Numbers
pub mod Back
pub mod Chain
pub mod Lists
pub mod Parts
pub mod Counting
