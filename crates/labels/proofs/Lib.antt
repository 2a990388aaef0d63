pub mod Along
pub mod Rowing
pub mod Finding
pub mod Visiting
