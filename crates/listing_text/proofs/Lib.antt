pub mod Laws
pub mod Decimal
pub mod Buffer
pub mod Shown
