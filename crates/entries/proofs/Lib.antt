pub mod Sequences
pub mod Joined
pub mod Moved
pub mod Codes
pub mod Settled
pub mod Cases
