pub mod Counted
pub mod Arms
pub mod Nesting
pub mod Declaring
pub mod Bodies
