pub mod Typing
