pub mod Leading
pub mod Laying
pub mod Keeping
pub mod Growing
pub mod Starting
pub mod Deciding
pub mod Marking
pub mod Using
