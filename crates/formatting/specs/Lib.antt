pub mod Fresh
pub mod Format
pub mod Rows
