pub mod Rules
pub mod Values
pub mod Facts
pub mod Promises
pub mod Cases
