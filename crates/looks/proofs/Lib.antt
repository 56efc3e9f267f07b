pub mod Looks
pub mod Cases
