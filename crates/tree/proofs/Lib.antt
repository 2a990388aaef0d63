pub mod Statements
pub mod Declarations
pub mod Scripts
pub mod Depths
pub mod Layouts
pub mod Unique
pub mod Noting
