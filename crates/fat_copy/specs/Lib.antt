pub mod Change
pub mod Copy
