pub mod Program
pub mod Finish
pub mod Plan
pub mod Calls
pub mod Outcome
pub mod Reading
pub mod Fitting
pub mod Promises
