pub mod Heads
pub mod Before
pub mod Stages
