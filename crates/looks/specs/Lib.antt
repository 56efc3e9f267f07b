pub mod Look
pub mod Promises
pub mod Cases
