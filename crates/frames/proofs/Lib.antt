pub mod Bytes
pub mod Round
pub mod Refusals
pub mod Exactly
pub mod Settled
