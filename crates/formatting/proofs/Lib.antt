pub mod Compute
pub mod Rows
pub mod Boot
pub mod Fat
pub mod Form
pub mod Card
