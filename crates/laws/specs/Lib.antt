pub mod Bits
pub mod Lists
pub mod Parts
pub mod Numbers
pub mod Outcome
pub mod Settled
pub mod Counts
