pub mod Keeping
pub mod Titling
pub mod Beginning
pub mod Answering
