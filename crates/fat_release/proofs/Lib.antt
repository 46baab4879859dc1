pub mod Laws
pub mod Shortens
