pub mod Find
pub mod Promises
pub mod Cases
