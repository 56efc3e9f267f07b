pub mod Codes
pub mod Groups
pub mod Dues
pub mod Powered
pub mod Promises
