pub mod Laws
pub mod Grounds
