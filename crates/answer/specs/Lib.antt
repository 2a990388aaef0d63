pub mod Out
pub mod Parts
