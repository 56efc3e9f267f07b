pub mod Compare
pub mod Carry
pub mod Promises
pub mod Cases
