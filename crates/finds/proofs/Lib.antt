pub mod Finds
pub mod Cases
