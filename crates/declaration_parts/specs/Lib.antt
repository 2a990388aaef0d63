pub mod Declaring
pub mod Heading
