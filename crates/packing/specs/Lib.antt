pub mod StateBytes
pub mod Promises
pub mod Cases
