pub mod Entry
pub mod Codes
pub mod Slices
pub mod Promises
pub mod Cases
