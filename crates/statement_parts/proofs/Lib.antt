pub mod Free
pub mod Fit
pub mod Jumps
pub mod Fitting
pub mod OwnNames
