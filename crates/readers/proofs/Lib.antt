pub mod Asking
pub mod Naming
pub mod TheName
pub mod Unique
