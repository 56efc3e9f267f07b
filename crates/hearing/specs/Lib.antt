pub mod Meaning
pub mod Pairs
pub mod Codes
pub mod Promises
