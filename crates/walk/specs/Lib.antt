pub mod Walking
pub mod Calls
