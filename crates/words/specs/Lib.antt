pub mod Values
pub mod Word
pub mod Promises
