pub mod Bytes
pub mod Codes
pub mod Exactly
pub mod Foreign
pub mod Closing
pub mod PairRule
pub mod Addressing
pub mod ForHistory
