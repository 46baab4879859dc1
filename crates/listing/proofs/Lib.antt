pub mod Whole
pub mod Fills
