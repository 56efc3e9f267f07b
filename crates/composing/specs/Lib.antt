pub mod Compose
pub mod Promises
pub mod Refusals
pub mod Bench
pub mod Cases
