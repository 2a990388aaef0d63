pub mod Onward
pub mod Arms
pub mod ByKind
pub mod Arrays
pub mod Names
pub mod Texts
