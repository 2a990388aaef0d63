pub mod Expressing
