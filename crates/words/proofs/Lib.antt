pub mod Worded
pub mod Settled
