pub mod Allocate
pub mod Renew
