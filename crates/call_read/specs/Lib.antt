pub mod Filled
pub mod Gave
