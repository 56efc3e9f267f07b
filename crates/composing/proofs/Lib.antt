pub mod Composed
pub mod Exactly
pub mod Bench
pub mod Cases
pub mod Settled
