pub mod Session
pub mod Running
pub mod Promises
pub mod Cases
