pub mod Examined
pub mod Opened
