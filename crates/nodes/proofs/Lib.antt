pub mod Types
pub mod Nodes
