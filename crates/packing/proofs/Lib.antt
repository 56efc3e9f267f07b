pub mod Spelled
pub mod Packed
pub mod Round
pub mod Settled
pub mod Cases
